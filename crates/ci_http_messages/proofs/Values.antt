-- The values of a name, one field after another.
use Rattle.std.proofs.Common.{◌≡◌, ℕ, ◌+◌, ◌<◌, Bool, true, false, List, [], ◌∷◌, ◌++◌, length, take, drop, map, refl, sym, ◌∙◌, ap, subst, arith, length-append, get_or, cond}
use Rattle.std.proofs.Common.{take-append-drop, IsTrue, filter}
use Rattle.std.specs.Bool.{Decides}
use Rattle.std.proofs.lemmas.List.{append-nil, take_more, map-append}
use Rattle.std.proofs.lemmas.List.Elements.{filter-append}
use Rattle.httparse.specs.Spans.{header_bytes}
use Rattle.httparse.specs.declared.spans.HeaderSpan.{HeaderSpan}
use Rattle.ci_http_messages.specs.Prelude.{values_of, is_named, Shows, Found, Absent, Once, Twice}

pub same_test : {P : Type 0} (r b : Bool) → (IsTrue r → P) × (P → IsTrue r) → Decides b P → r ≡ b
same_test true true h d = refl
same_test true false h d = sym (d.1 (h.0 refl))
same_test false true h d = h.1 (d.0 refl)
same_test false false h d = refl

pub values-append : (name : List ℕ) (fs gs : List (List ℕ × List ℕ)) → values_of name (fs ++ gs) ≡ values_of name fs ++ values_of name gs
values-append name fs gs =
    ap (map (λ field. field.1)) (filter-append (is_named name) fs gs) ∙ map-append (λ field. field.1) (filter (is_named name) fs) (filter (is_named name) gs)

abbrev pub values_at : List ℕ → List ℕ → List HeaderSpan → List (List ℕ)
values_at name head headers = values_of name (map (header_bytes head) headers)

pub values_at-append : (name head : List ℕ) (hs ks : List HeaderSpan) → values_at name head (hs ++ ks) ≡ values_at name head hs ++ values_at name head ks
values_at-append name head hs ks =
    ap (values_of name) (map-append (header_bytes head) hs ks) ∙ values-append name (map (header_bytes head) hs) (map (header_bytes head) ks)

-- the values with one more field
pub values_more : (name head : List ℕ) (hs : List HeaderSpan) (i : ℕ) (d : HeaderSpan) → i < length hs
    → values_at name head (take (i + 1) hs) ≡ values_at name head (take i hs) ++ values_at name head (get_or hs i d ∷ [])
values_more name head hs i d h =
    ap (values_at name head) (take_more hs i d h) ∙ values_at-append name head (take i hs) (get_or hs i d ∷ [])

one_value : (name : List ℕ) (f : List ℕ × List ℕ) (b : Bool) → is_named name f ≡ b → values_of name (f ∷ []) ≡ cond b (f.1 ∷ []) []
one_value name f true h = ap (λ t. map (λ field. field.1) (cond t (f ∷ []) [])) h
one_value name f false h = ap (λ t. map (λ field. field.1) (cond t (f ∷ []) [])) h

pub shows_some : (found : Found) (a : List (List ℕ)) → (found ≡ Absent → ⊥) → Shows found a → 0 < length a
shows_some Absent a n s = absurd (n refl)
shows_some (Once v) a n s = omega (arith, ap length s)
shows_some Twice a n s = omega arith

-- what is known of one turn
pub turn_same : (name head : List ℕ) (hs : List HeaderSpan) (i : ℕ) (d : HeaderSpan) (found : Found) → i < length hs
    → is_named name (header_bytes head (get_or hs i d)) ≡ false → Shows found (values_at name head (take i hs))
    → Shows found (values_at name head (take (i + 1) hs))
turn_same name head hs i d found h test s =
    let more = values_more name head hs i d h ∙ ap (λ l. values_at name head (take i hs) ++ l) (one_value name (header_bytes head (get_or hs i d)) false test) in
    subst (Shows found) (sym (more ∙ append-nil (values_at name head (take i hs)))) s

pub turn_once : (name head : List ℕ) (hs : List HeaderSpan) (i : ℕ) (d : HeaderSpan) (value : List ℕ) → i < length hs
    → is_named name (header_bytes head (get_or hs i d)) ≡ true → value ≡ (header_bytes head (get_or hs i d)).1
    → values_at name head (take i hs) ≡ [] → values_at name head (take (i + 1) hs) ≡ value ∷ []
turn_once name head hs i d value h test is none =
    values_more name head hs i d h ∙ ap (λ l. l ++ values_at name head (get_or hs i d ∷ [])) none
    ∙ one_value name (header_bytes head (get_or hs i d)) true test ∙ ap (λ v. v ∷ []) (sym is)

pub turn_twice : (name head : List ℕ) (hs : List HeaderSpan) (i : ℕ) (d : HeaderSpan) (found : Found) → i < length hs
    → is_named name (header_bytes head (get_or hs i d)) ≡ true → (found ≡ Absent → ⊥) → Shows found (values_at name head (take i hs))
    → 1 < length (values_at name head hs)
turn_twice name head hs i d found h test some s =
    let front = values_at name head (take i hs) in
    let one = one_value name (header_bytes head (get_or hs i d)) true test in
    let more = values_more name head hs i d h in
    let whole : values_at name head hs ≡ values_at name head (take (i + 1) hs) ++ values_at name head (drop (i + 1) hs)
    = ap (values_at name head) (sym (take-append-drop (i + 1) hs)) ∙ values_at-append name head (take (i + 1) hs) (drop (i + 1) hs) in
    omega (
      arith,
      shows_some found front some s,
      ap length one,
      ap length more,
      ap length whole,
      length-append front (values_at name head (get_or hs i d ∷ [])),
      length-append (values_at name head (take (i + 1) hs)) (values_at name head (drop (i + 1) hs)),
    )
