-- What a command has once one more argument, or one more command, is added to it.
use Rattle.std.proofs.Common.{◌≡◌, ◌∙◌, ◌||◌, ◌++◌, ◌∷◌, List, Bool, false, refl, ap, ap₂, [], sym, subst, map, append_assoc, append-nil, ℕ, ◌<◌, ◌+◌, drop, get_or, drop-cons, add-one}
use Rattle.clap.specs.Built.{AddsArg, AddsInTurn, AddsSubcommand}
use Rattle.clap.specs.Walk.{Rule, rule_of}
use Rattle.clap.specs.Simple.{App, Shape, app_of, with_rule, with_subcommand}
use Rattle.clap.specs.declared.builder.arg.Arg.{Arg}
use Rattle.clap.specs.declared.builder.command.Command.{Command}
use Rattle.ci_cli_words.specs.CommandLine.{IsCommand, shape_of}
use Rattle.ci_cli_words.specs.declared.command_name.CommandName.{CommandName}

neither : (a b : Bool) → a ≡ false → b ≡ false → (a || b) ≡ false
neither a b p q = rw (p, q) refl

pub with_argument : (s : Shape) (old new : Command) (a : Arg) (r : Rule) → IsCommand s old → rule_of a ≡ r → a.global ≡ false → AddsArg old a new
    → IsCommand (record s { rules = s.rules ++ r ∷ [] }) new
with_argument s old new a r is rule local adds =
    (adds.shape local ∙ ap₂ with_rule is.0 rule, adds.globals ∙ neither _ _ is.1 local)

-- no command below takes one of them over
abbrev pub AreLocal : List Arg → Type 0
AreLocal [] = Unit
AreLocal (a ∷ args) = (a.global ≡ false) × AreLocal args

added : (s : Shape) (old new : Command) (args : List Arg) → IsCommand s old → AreLocal args → AddsInTurn AddsArg old args new
    → IsCommand (record s { rules = s.rules ++ map rule_of args }) new
added s old new [] is local adds = subst (IsCommand (record s { rules = s.rules ++ [] })) adds (subst (λ it. IsCommand (record s { rules = it }) old) (sym (append-nil s.rules)) is)
added s old new (a ∷ args) is local adds =
    subst (λ it. IsCommand (record s { rules = it }) new) (append_assoc s.rules (rule_of a ∷ []) (map rule_of args)) (added (record s { rules = s.rules ++ rule_of a ∷ [] }) adds.0 new args (with_argument s old adds.0 a (rule_of a) is refl local.0 adds.1) local.1 adds.2)

pub with_arguments : (s : Shape) (old new : Command) (args : List Arg) (rules : List Rule) → IsCommand s old → map rule_of args ≡ rules → AreLocal args → AddsInTurn AddsArg old args new
    → IsCommand (record s { rules = s.rules ++ rules }) new
with_arguments s old new args rules is same local adds = subst (λ it. IsCommand (record s { rules = s.rules ++ it }) new) same (added s old new args is local adds)

abbrev pub every_command : List CommandName
every_command =
    CommandName.Check ∷ CommandName.Explain ∷ CommandName.Plan ∷ CommandName.Init ∷ CommandName.Migrate ∷ CommandName.ProjectAdd ∷ CommandName.RunnerAdd
    ∷ CommandName.RunnerPause ∷ CommandName.Report ∷ CommandName.Prune ∷ CommandName.Serve ∷ []

pub rest_at : (i : ℕ) → i < 11 → drop i every_command ≡ get_or every_command i CommandName.Check ∷ drop (i + 1) every_command
rest_at i low = rw (add-one, drop-cons every_command i CommandName.Check low) refl

-- the program with these commands behind its own
abbrev pub with_all : App → List CommandName → App
with_all a [] = a
with_all a (name ∷ names) = with_all (with_subcommand a (shape_of name)) names

pub with_command : (a : App) (s : Shape) (old sub new : Command) → app_of old ≡ a → IsCommand s sub → AddsSubcommand old sub new → app_of new ≡ with_subcommand a s
with_command a s old sub new e is adds = adds.shape is.1 ∙ ap₂ with_subcommand e (ap (λ (app : App). app.top) is.0)
