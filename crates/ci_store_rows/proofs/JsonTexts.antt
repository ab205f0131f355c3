-- The texts of JSON values.
use Rattle.std.proofs.Common.{◌≡◌, ◌∙◌, ◌≤◌, ℕ, suc, List, [], ◌∷◌, map, filter, false, Option, None, Result, Ok, Err, Some, IfOk, OnOk, string_bytes, refl, sym, ap, max, arith}
use Rattle.std.specs.declared.string.String.{String}
use Rattle.std.proofs.lemmas.Bool.{or_from}
use Rattle.serde_json.specs.Data.{Data, string, number, unsigned, depth, items_depth}
use Rattle.serde_json.specs.Read.{read, max_depth}
use Rattle.serde_json.specs.View.{items_of}
use Rattle.serde_json.specs.Written.{compact_text, has_float, items_have_float}
use Rattle.ci_machine.specs.Prelude.{AllowFailure, No, Yes, ExitCodes, Retry, has_cause}
use Rattle.ci_store.specs.Prelude.{JobOptions}
use Rattle.ci_store_rows.specs.Prelude.{cause_text, every_cause, allow_data, group_data, retry_data, spec_data}

-- texts hold no float, nor do whole numbers
pub no_float : (texts : List (List ℕ)) → items_have_float (items_of (map string texts)) ≡ false
no_float [] = refl
no_float (text ∷ texts) = no_float texts

whole : (ns : List ℕ) → items_have_float (items_of (map (λ n. number (unsigned n)) ns)) ≡ false
whole [] = refl
whole (n ∷ ns) = whole ns

-- and they nest nothing
pub flat : (texts : List (List ℕ)) → items_depth (items_of (map string texts)) ≡ 0
flat [] = refl
flat (text ∷ texts) = ap (max 0) (flat texts)

flat_numbers : (ns : List ℕ) → items_depth (items_of (map (λ n. number (unsigned n)) ns)) ≡ 0
flat_numbers [] = refl
flat_numbers (n ∷ ns) = ap (max 0) (flat_numbers ns)

-- ---- what was fixed of a job

allow_float : (a : AllowFailure) → has_float (allow_data a) ≡ false
allow_float No = refl
allow_float Yes = refl
allow_float (ExitCodes ns) = whole ns

group_float : (g : Option (List ℕ)) → has_float (group_data g) ≡ false
group_float None = refl
group_float (Some name) = refl

retry_float : (r : Retry) → has_float (retry_data r) ≡ false
retry_float r = or_from _ _ (no_float (map cause_text (filter (has_cause r.causes) every_cause))) refl

pub spec_float : (spec : JobOptions) → has_float (spec_data spec) ≡ false
spec_float spec = or_from _ _ (allow_float spec.part.allow_failure) (or_from _ _ (group_float spec.resource_group) (or_from _ _ (retry_float spec.part.retry) (or_from _ _ (no_float spec.script) (or_from _ _ (no_float spec.tags) refl))))

either_low : (a b n : ℕ) → a ≤ n → b ≤ n → max a b ≤ n
either_low a b n p q = omega (arith, p, q)

allow_low : (a : AllowFailure) → depth (allow_data a) ≤ 2
allow_low No = omega arith
allow_low Yes = omega arith
allow_low (ExitCodes ns) = let none = flat_numbers ns in omega (arith, none)

group_low : (g : Option (List ℕ)) → depth (group_data g) ≤ 2
group_low None = omega arith
group_low (Some name) = omega arith

list_low : (texts : List (List ℕ)) → suc (items_depth (items_of (map string texts))) ≤ 2
list_low texts = let none = flat texts in omega (arith, none)

retry_low : (r : Retry) → depth (retry_data r) ≤ 2
retry_low r = let none = flat (map cause_text (filter (has_cause r.causes) every_cause)) in omega (arith, none)

nothing_low : 0 ≤ 2
nothing_low = omega arith

pub spec_low : (spec : JobOptions) → depth (spec_data spec) ≤ max_depth
spec_low spec =
    let inner =
    either_low _ _ 2 (allow_low spec.part.allow_failure)
    (either_low _ _ 2 nothing_low
    (either_low _ _ 2 nothing_low
    (either_low _ _ 2 (group_low spec.resource_group)
    (either_low _ _ 2 (retry_low spec.part.retry)
    (either_low _ _ 2 (list_low spec.script)
    (either_low _ _ 2 (list_low spec.tags)
    (either_low _ _ 2 nothing_low
    (either_low _ _ 2 nothing_low nothing_low)))))))) in
    omega (arith, inner)

-- ---- how a value is written, and read again

pub told : {Z E : Type 0} (r : Result (String Z) E) (d e : Data) → d ≡ e → has_float e ≡ false → IfOk r (λ s. has_float d ≡ false → string_bytes s ≡ compact_text d) → IfOk r (λ s. string_bytes s ≡ compact_text e)
told (Ok s) d e same none h = h (ap has_float same ∙ none) ∙ ap compact_text same
told (Err x) d e same none h = tt

pub told_back : {Z E : Type 0} (r : Result (String Z) E) (d e : Data) → d ≡ e → depth e ≤ max_depth → IfOk r (λ s. string_bytes s ≡ compact_text e) → IfOk r (λ s. depth d ≤ max_depth → read (string_bytes s) ≡ Some d)
    → OnOk r (read (compact_text e) ≡ Some e)
told_back (Ok s) d e same low text h = ap read (sym text) ∙ h (omega (arith, low, ap depth same)) ∙ ap Some same
told_back (Err x) d e same low text h = tt
