-- What a command line asks for, and how it is refused, by what clap says of it.
use Rattle.std.proofs.Common.{◌≡◌, ◌∙◌, inl, inr, true, refl, ap, subst, sym, List, [], None, Option, Some, Result, Ok, Err, IfErr, IsErrAnd}
use Rattle.clap.specs.Faults.{fault_of, is_simple_and_free}
use Rattle.clap.specs.Kinds.{HasKind}
use Rattle.clap.specs.Simple.{App, HasMatchesOf, is_simple, subcommand_of, subcommand_rows_of}
use Rattle.clap.specs.Values.{kind_of}
use Rattle.clap.specs.Walk.{Text}
use Rattle.clap.specs.declared.error.Error.{Error}
use Rattle.clap.specs.declared.parser.matches.ArgMatches.{ArgMatches}
use Rattle.clap.proofs.OnLiterals.{clap_on_literals}
use Rattle.ci_cli_words.specs.CommandLine.{command_line}
use Rattle.ci_cli_words.specs.Words.{AsksIn, AsksOn, IsRefused, Reads}
use Rattle.ci_cli_words.specs.declared.task.Task.{Task}

simple : is_simple command_line ≡ true
unfolding clap_on_literals
simple = refl

simple_and_free : is_simple_and_free command_line ≡ true
unfolding clap_on_literals
simple_and_free = refl

module _ (a : App) (words : List Text) (line : a ≡ command_line) where
  pub no_fault : (is_simple_and_free a ≡ true → fault_of a words ≡ []) → fault_of command_line words ≡ []
  no_fault none = subst (λ (x : App). fault_of x words ≡ []) line (none (ap is_simple_and_free line ∙ simple_and_free))

  pub asked_on : (m : ArgMatches) (r : Option Task) → (is_simple_and_free a ≡ true → fault_of a words ≡ []) → HasMatchesOf a words m
      → Reads (AsksIn (subcommand_rows_of m)) r → Reads (AsksOn words) r
  asked_on m r none has reads = go r (subst (λ sub. Reads (AsksIn sub) r) rows reads)
    where
      rows : subcommand_rows_of m ≡ subcommand_of command_line words
      rows = (has (ap is_simple line ∙ simple)).1 ∙ ap (λ (x : App). subcommand_of x words) line

      go : (o : Option Task) → Reads (AsksIn (subcommand_of command_line words)) o → Reads (AsksOn words) o
      go None nothing = λ t asks. nothing t asks.1
      go (Some t) asks = (no_fault none, asks)

  pub refused : (e : Error) → (is_simple_and_free a ≡ true → HasKind (fault_of a words) e) → IsRefused words (kind_of e)
  refused e fails = go (subst (λ (x : App). HasKind (fault_of x words) e) line (fails (ap is_simple_and_free line ∙ simple_and_free)))
    where
      go : HasKind (fault_of command_line words) e → IsRefused words (kind_of e)
      go (inl memory) = inl memory
      go (inr other) = inr (inl other)

-- an error that is passed on
pub passed_on : {T : Type 0} (r : Result T Error) (x : Error) (P : Error → Type 0) → IsErrAnd r (λ e. e ≡ x) → P x → IfErr r P
passed_on (Ok v) x P is p = tt
passed_on (Err e) x P is p = subst P (sym is) p
