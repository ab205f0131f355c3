use Rattle.std.proofs.Common.{IfOk, subst}
use Rattle.clap.specs.Matches.{found_of}
use Rattle.clap.specs.Walk.{rows_of}
use Rattle.clap.specs.declared.parser.matches.ArgMatches.TheViews.{out-ArgMatches}
use Rattle.ci_cli_words.specs.Words.{AsksBy, Reads}
use Rattle.ci_cli_words.proofs.Subcommand.{joined, no_subcommand}
use Rattle.ci_cli_words.proofs.words.task_named.Goals as goal

pub returns-in-None : goal.returns-in-None
returns-in-None c =
    let met = joined (out-ArgMatches c.args.matches.now).subcommand _ _ c.in-Some.ensures.name c.in-Some.ensures.rows in
    rw (met, ← c.in-None.ensures) (λ t asks. asks)

pub returns-in_default : goal.returns-in_default
returns-in_default c =
    let none = no_subcommand (out-ArgMatches c.args.matches.now).subcommand c.in_default.ensures.name in
    rw none (λ t asks. asks)

pub returns-in-Some-command_named : goal.returns-in-Some-command_named
returns-in-Some-command_named c =
    let met = joined (out-ArgMatches c.args.matches.now).subcommand _ _ c.in-Some.ensures.name c.in-Some.ensures.rows in
    rw met (subst (λ command. IfOk c.asked.result (Reads (AsksBy command (rows_of (found_of c.in-Some.found.now))))) c.in-Some-command_named.ensures c.asked.ensures)
