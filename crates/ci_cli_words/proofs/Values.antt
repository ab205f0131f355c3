-- What the getters of matches say, by the rows of the matches.
use Rattle.std.proofs.Common.{◌≡◌, ◌∙◌, refl, sym, Option, Some, None, option_map}
use Rattle.std.specs.Borrow.{Bor}
use Rattle.clap.specs.Walk.{Text}
use Rattle.ci_cli_words.specs.Words.{Reads}

some≢none : {X : Type 0} (x : X) → Some x ≡ None → ⊥
some≢none x e = cc

pub read_text : (r : Option (Bor Text)) (o : Option Text) → option_map (λ s. s.now) r ≡ o → Reads (λ (x : Bor Text). o ≡ Some x.now) r
read_text None o e = λ x h. some≢none x.now (sym h ∙ sym e)
read_text (Some x) o e = sym e

-- ---- a value that doesn't begin with `-`

-- no reference is to the value, so there is none
pub nothing : (o : Option Text) → ((x : Bor Text) → ¬ (o ≡ Some x.now)) → o ≡ None
nothing None h = refl
nothing (Some t) h = absurd (h (record { ref_ptr = (0, 0); now = t }) refl)
