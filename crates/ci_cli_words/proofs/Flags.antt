-- The flags among matches, by the rows of the matches.
use Rattle.std.proofs.Common.{◌≡◌, ℕ, Bool, true, false, refl, sym, List, Option, Some, None, codes, unwrap_or}
use Rattle.std.specs.Str.Parse.{ParsesBool}
use Rattle.std.proofs.lemmas.Bool.{false_from_ne_true}
use Rattle.std.proofs.lemmas.Slice.Eq.{bytes_eq-Decides}
use Rattle.clap.specs.Matches.{ReadsOne}
use Rattle.clap.specs.Walk.{Text}
use Rattle.ci_cli_words.specs.Words.{is_true}

module _ (E : Type 0) where
  pub read_flag : (o : Option Text) (r : Option Bool) → (o ≡ None → r ≡ None) → ((t : List ℕ) → o ≡ Some t → ReadsOne {T = Bool} {E = E} ParsesBool t r) → unwrap_or r false ≡ is_true o
  read_flag None r none value = rw (none refl) refl
  read_flag (Some t) (Some true) none value = rw (value t refl) refl
  read_flag (Some t) (Some false) none value = rw (value t refl) refl
  read_flag (Some t) None none value =
      let h = value t refl in
      sym (false_from_ne_true _ (λ e. h.1.0 ((bytes_eq-Decides t (codes "true")).0 e)))
