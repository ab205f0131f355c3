use Rattle.std.proofs.Common.{◌≡◌, Option, Some, subst}
use Rattle.clap.specs.Walk.{Text}
use Rattle.ci_cli_words.specs.Dates.{IsDateAt}
use Rattle.ci_cli_words.proofs.asked.prune_in.Goals as goal

-- the text is no other
same_text : (o : Option Text) (x y : Text) → o ≡ Some x → o ≡ Some y → y ≡ x
same_text o x y e f = cc

pub returns-in_err-midnight_of : goal.returns-in_err-midnight_of
returns-in_err-midnight_of c =
    rw c.from_residual-in_err-midnight_of.ensures (λ t asks. c.in_err-midnight_of.ensures.none asks.2 (subst (λ text. IsDateAt text asks.2) (same_text _ _ _ c.in_ok-day.ensures asks.5) asks.6))
