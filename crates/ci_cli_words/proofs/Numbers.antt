-- The numbers among matches, by the texts that their arguments have.
use Rattle.std.proofs.Common.{◌≡◌, ◌^◌, ◌&&◌, ℕ, Bool, true, false, refl, sym, ap, List, [], ◌∷◌, length, Option, Some, None, Result, Ok, Err, true≢false, nat_lt, lt-ltb, ltb-true}
use Rattle.std.proofs.Common.{option_and_then}
use Rattle.std.specs.List.{list_all}
use Rattle.std.specs.Char.{digit_value}
use Rattle.std.specs.Str.Parse.{AllDigits, ParsesUnsigned, digits_value, without_leading_plus}
use Rattle.std.specs.declared.num.ParseIntError.{ParseIntError}
use Rattle.clap.specs.Matches.{ReadsOne}
use Rattle.clap.specs.Walk.{Text}
use Rattle.ci_cli_words.specs.Words.{numeral}

digits_pass : (ds : List ℕ) → AllDigits 10 ds → list_all (λ d. nat_lt (digit_value d) 10) ds ≡ true
digits_pass [] h = refl
digits_pass (d ∷ ds) h = rw (lt-ltb (digit_value d) 10 h.0) (digits_pass ds h.1)

both : (a b : Bool) → (a && b) ≡ true → (a ≡ true) × (b ≡ true)
both true b e = (refl, e)
both false b e = absurd (true≢false (sym e))

digits_from : (ds : List ℕ) → list_all (λ d. nat_lt (digit_value d) 10) ds ≡ true → AllDigits 10 ds
digits_from [] e = tt
digits_from (d ∷ ds) e =
    let parts = both _ _ e in
    (ltb-true _ _ parts.0, digits_from ds parts.1)

abbrev fits : ℕ → List ℕ → Bool
fits bits ds = (nat_lt 0 (length ds) && list_all (λ d. nat_lt (digit_value d) 10) ds) && nat_lt (digits_value 10 ds) (2 ^ bits)

module _ (bits : ℕ) {G : Text → Result ℕ ParseIntError → Type 0} (so : (t : Text) (x : Result ℕ ParseIntError) → G t x → ParsesUnsigned bits 10 t x) where
  read_numeral : (text : Text) (r : Option ℕ) → ReadsOne G text r → r ≡ numeral bits (without_leading_plus text)
  read_numeral text (Some n) h =
      let ds = without_leading_plus text in
      let p = so text (Ok n) h in
      rw (lt-ltb 0 (length ds) p.0.0.0, digits_pass ds p.0.0.1, lt-ltb (digits_value 10 ds) (2 ^ bits) p.0.1) (ap Some p.1)
  read_numeral text None h = go (fits bits (without_leading_plus text)) refl
    where
      go : (b : Bool) → fits bits (without_leading_plus text) ≡ b → None ≡ numeral bits (without_leading_plus text)
      go false t = rw t refl
      go true t =
          let outer = both _ _ t in
          let inner = both _ _ outer.0 in
          absurd (so text (Err h.0) h.1 ((ltb-true _ _ inner.0, digits_from (without_leading_plus text) inner.1), ltb-true _ _ outer.1))

  -- a number, by the text that its argument has
  pub read_number : (o : Option Text) (r : Option ℕ) → (o ≡ None → r ≡ None) → ((t : Text) → o ≡ Some t → ReadsOne G t r)
      → r ≡ option_and_then (λ text. numeral bits (without_leading_plus text)) o
  read_number None r none value = none refl
  read_number (Some t) r none value = read_numeral t r (value t refl)
