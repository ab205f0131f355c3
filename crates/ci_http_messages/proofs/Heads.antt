-- The first empty line of a text that grows at its end.
use Rattle.ci_http_messages.specs.Prelude.{Tells, TakesFront, empty_line, head_len, Opening, short, too_large, opened, opening_at, opening_of, is_line_feed, MAX_HEAD_BYTES}
use Rattle.ci_http_messages.specs.Prelude.{MAX_HEAD_LINES}
use Rattle.std.specs.Io.KnownBytes.{Consumes, IsAtEnd}
use Rattle.std.proofs.Common.{◌≡◌, ℕ, zero, suc, ◌+◌, ◌-◌, ◌<◌, ◌≤◌, Bool, true, false, List, [], ◌∷◌, ◌++◌, length, take, drop, refl, sym, ◌∙◌, ap, subst, arith, length-drop}
use Rattle.std.proofs.Common.{length-take, length-append, append_assoc, get_or, nat_eq, nat_lt, inl, inr, ◌⊎◌, if◌then◌else◌, Option, Some, None, option_map, count_by}
use Rattle.std.proofs.lemmas.List.{take-append-le, take-take, take_all, append-nil}
use Rattle.std.specs.List.{starts_with, ends_with}
use Rattle.std.specs.Cmp.Lexicographic.{pointwise, unequal, as_long}
use Rattle.std.proofs.Math.Seq.{take-append-add, take-append_seam, drop-append_seam}
use Rattle.std.proofs.lemmas.Bool.Decides.{nat_tests}

abbrev starts : List ℕ → Bool
starts l = starts_with nat_eq l empty_line

abbrev ends : List ℕ → Bool
ends l = ends_with nat_eq l empty_line

-- n, if the test holds
abbrev pick : ℕ → Bool → Option ℕ
pick n s = if s then Some n else None

abbrev next : Bool → Option ℕ → Option ℕ
next s o = if s then Some 4 else option_map suc o

-- a text of less than four bytes neither begins nor ends with the empty line
starts_short : (l : List ℕ) → length l < 4 → starts l ≡ false
starts_short l h =
    let e : take 4 l ≡ l = take_all 4 l (omega arith) in
    ap (λ m. pointwise nat_eq empty_line m) e ∙ unequal nat_eq empty_line l (λ q. omega (arith, q))

ends_short : (l : List ℕ) → length l < 4 → ends l ≡ false
ends_short l h = unequal nat_eq empty_line (drop (length l - 4) l) (λ q. omega (arith, q, length-drop (length l - 4) l))

step : (x : ℕ) (l : List ℕ) (s : Bool) → starts (x ∷ l) ≡ s → head_len (x ∷ l) ≡ next s (head_len l)
step x l s h = ap (λ t. next t (head_len l)) h

head_len-short : (l : List ℕ) → length l < 4 → head_len l ≡ None
head_len-short [] h = refl
head_len-short (x ∷ l) h =
    step x l false (starts_short (x ∷ l) h) ∙ ap (λ o. next false o) (head_len-short l (omega arith))

none_parts : (s : Bool) (o : Option ℕ) → next s o ≡ None → (s ≡ false) × (o ≡ None)
none_parts true o e = cc
none_parts false None e = (refl, refl)
none_parts false (Some n) e = cc

map_pick : (n : ℕ) (s : Bool) → option_map suc (pick n s) ≡ pick (suc n) s
map_pick n true = refl
map_pick n false = refl

ends_step : (x : ℕ) (m : List ℕ) → 4 ≤ length m → ends (x ∷ m) ≡ ends m
ends_step x m h =
    let e : suc (length m) - 4 ≡ suc (length m - 4) = omega arith in
    ap (λ k. pointwise nat_eq empty_line (drop k (x ∷ m))) e

short_snoc : (l : List ℕ) (n : ℕ) → length l < 4 → head_len l ≡ pick n (ends l)
short_snoc l n h = head_len-short l h ∙ sym (ap (pick n) (ends_short l h))

abbrev Snoc : List ℕ → ℕ → Type 0
Snoc l b = head_len (l ++ b ∷ []) ≡ pick (length l + 1) (ends (l ++ b ∷ []))

snoc_at : (x : ℕ) (l : List ℕ) (b : ℕ) → head_len (x ∷ l) ≡ None → (head_len l ≡ None → Snoc l b) → Snoc (x ∷ l) b
snoc_at x [] b h ih = short_snoc (x ∷ b ∷ []) 2 (omega arith)
snoc_at x (y ∷ []) b h ih = short_snoc (x ∷ y ∷ b ∷ []) 3 (omega arith)
snoc_at x (y ∷ z ∷ []) b h ih =
    ap (λ o. next (starts (x ∷ y ∷ z ∷ b ∷ [])) o) (head_len-short (y ∷ z ∷ b ∷ []) (omega arith))
snoc_at x (y ∷ z ∷ w ∷ xs) b h ih =
    let l = y ∷ z ∷ w ∷ xs in
    let inv = none_parts (starts (x ∷ l)) (head_len l) h in
    let m = l ++ b ∷ [] in
    let longer : 4 ≤ length m = omega (arith, length-append xs (b ∷ [])) in
    step x m false inv.0 ∙ ap (option_map suc) (ih inv.1)
    ∙ map_pick (length l + 1) (ends m)
    ∙ ap (λ n. pick n (ends m)) (let e : suc (length l + 1) ≡ length (x ∷ l) + 1 = omega arith in e)
    ∙ ap (pick (length (x ∷ l) + 1)) (sym (ends_step x m longer))

-- one byte more
pub head_len-snoc : (xs : List ℕ) (b : ℕ) → head_len xs ≡ None
    → head_len (xs ++ b ∷ []) ≡ (if ends_with nat_eq (xs ++ b ∷ []) empty_line then Some (length xs + 1) else None)
head_len-snoc [] b h = short_snoc (b ∷ []) 1 (omega arith)
head_len-snoc (x ∷ l) b h = snoc_at x l b h (head_len-snoc l b)

take_fits : (k : ℕ) (l : List ℕ) → length (take k l) ≤ length l
take_fits k l = omega (arith, length-take k l)

-- where the head ends, it begins here or goes on
parts : (s : Bool) (o : Option ℕ) (n : ℕ) → next s o ≡ Some n → ((s ≡ true) × (4 ≡ n)) ⊎ ((s ≡ false) × (m : ℕ) × (o ≡ Some m) × (suc m ≡ n))
parts true o n e = inl (refl, cc)
parts false None n e = cc
parts false (Some m) n e = inr (refl, m, refl, cc)

-- a head has at least four bytes, and ends in the text
pub head_len-bounds : (l : List ℕ) (n : ℕ) → head_len l ≡ Some n → (4 ≤ n) × (n ≤ length l)
head_len-bounds [] n h = cc
head_len-bounds (x ∷ l) n h =
    elim (parts (starts (x ∷ l)) (head_len l) n h) [
      | inl (p, same) ↦
          let long = as_long nat_eq empty_line (take 4 (x ∷ l)) p in
          let fits = take_fits 4 (x ∷ l) in
          (omega arith, omega arith)
      | inr (p, m, q, same) ↦ let b = head_len-bounds l m q in (omega arith, omega arith)
    ]

-- what follows does not change where the head ends
pub head_len-append : (l more : List ℕ) (n : ℕ) → head_len l ≡ Some n → head_len (l ++ more) ≡ Some n
head_len-append [] more n h = cc
head_len-append (x ∷ l) more n h =
    let b = head_len-bounds (x ∷ l) n h in
    let same = ap (λ m. pointwise nat_eq empty_line m) (take-append-le 4 (x ∷ l) more (omega arith)) in
    elim (parts (starts (x ∷ l)) (head_len l) n h) [
      | inl (p, is) ↦ step x (l ++ more) true (same ∙ p) ∙ ap Some is
      | inr (p, m, q, is) ↦ step x (l ++ more) false (same ∙ p) ∙ ap (option_map suc) (head_len-append l more m q) ∙ ap Some is
    ]

-- the bytes up to and with the end of the head have it too
pub head_len-front : (l : List ℕ) (n : ℕ) → head_len l ≡ Some n → head_len (take n l) ≡ Some n
head_len-front [] n h = cc
head_len-front (x ∷ l) n h =
    elim (parts (starts (x ∷ l)) (head_len l) n h) [
      | inl (p, is) ↦
          let same = ap (λ m. pointwise nat_eq empty_line (x ∷ m)) (take-take 3 3 l (omega arith)) in
          subst (λ k. head_len (take k (x ∷ l)) ≡ Some k) is (step x (take 3 l) true (same ∙ p))
      | inr (p, m, q, is) ↦
          let b = head_len-bounds l m q in
          let same = ap (λ t. pointwise nat_eq empty_line (x ∷ t)) (take-take 3 m l (omega arith)) in
          subst (λ k. head_len (take k (x ∷ l)) ≡ Some k) is (step x (take m l) false (same ∙ p) ∙ ap (option_map suc) (head_len-front l m q))
    ]

-- a head within the limit is found
head_in : (limit : ℕ) (v rest : List ℕ) (n : ℕ) → head_len v ≡ Some n → length v ≤ limit → head_len (take limit (v ++ rest)) ≡ Some n
head_in limit v rest n h fits =
    let k : length v + (limit - length v) ≡ limit = omega arith in
    let e : take limit (v ++ rest) ≡ v ++ take (limit - length v) rest
    = ap (λ m. take m (v ++ rest)) (sym k) ∙ take-append-add v rest (limit - length v) in
    ap head_len e ∙ head_len-append v (take (limit - length v) rest) n h

abbrev at_end : List ℕ → List ℕ → Opening × List ℕ
at_end front rest = if nat_lt MAX_HEAD_LINES (count_by is_line_feed front) then (too_large, rest) else (opened front, rest)

at_head : (v rest : List ℕ) → head_len v ≡ Some (length v) → length v ≤ MAX_HEAD_BYTES → opening_of (v ++ rest) ≡ at_end v rest
at_head v rest h fits =
    ap (opening_at (v ++ rest)) (head_in MAX_HEAD_BYTES v rest (length v) h fits)
    ∙ ap (λ f. at_end f (drop (length v) (v ++ rest))) (take-append_seam v rest)
    ∙ ap (at_end v) (drop-append_seam v rest)

pub opening-front : (v rest : List ℕ) (many : Bool) → head_len v ≡ Some (length v) → length v ≤ MAX_HEAD_BYTES
    → nat_lt MAX_HEAD_LINES (count_by is_line_feed v) ≡ many → opening_of (v ++ rest) ≡ (if many then (too_large, rest) else (opened v, rest))
opening-front v rest many h fits lines = at_head v rest h fits ∙ ap (λ b. if b then (too_large, rest) else (opened v, rest)) lines

none_in : (limit : ℕ) (v rest : List ℕ) → head_len v ≡ None → length v ≡ limit → head_len (take limit (v ++ rest)) ≡ None
none_in limit v rest h e = ap (λ m. head_len (take m (v ++ rest))) (sym e) ∙ ap head_len (take-append_seam v rest) ∙ h

at_limit : (bytes : List ℕ) → nat_lt (length bytes) MAX_HEAD_BYTES ≡ false → opening_at bytes None ≡ (too_large, drop MAX_HEAD_BYTES bytes)
at_limit bytes h = ap (λ b. if b then (short, []) else (too_large, drop MAX_HEAD_BYTES bytes)) h

after_limit : (limit : ℕ) (v rest : List ℕ) → length v ≡ limit → drop limit (v ++ rest) ≡ rest
after_limit limit v rest e = ap (λ m. drop m (v ++ rest)) (sym e) ∙ drop-append_seam v rest

pub opening-long : (v rest : List ℕ) → head_len v ≡ None → length v ≡ MAX_HEAD_BYTES → opening_of (v ++ rest) ≡ (too_large, rest)
opening-long v rest h e =
    let long : nat_lt (length (v ++ rest)) MAX_HEAD_BYTES ≡ false = grind (arith, nat_tests, length-append v rest) in
    ap (opening_at (v ++ rest)) (none_in MAX_HEAD_BYTES v rest h e)
    ∙ at_limit (v ++ rest) long ∙ ap (λ r. (too_large, r)) (after_limit MAX_HEAD_BYTES v rest e)

pub opening-short : (v : List ℕ) → head_len v ≡ None → length v < MAX_HEAD_BYTES → opening_of v ≡ (short, [])
opening-short v h fits =
    let whole : take MAX_HEAD_BYTES v ≡ v = take_all MAX_HEAD_BYTES v (omega arith) in
    let less : nat_lt (length v) MAX_HEAD_BYTES ≡ true = grind (arith, nat_tests) in
    ap (λ t. opening_at v (head_len t)) whole ∙ ap (opening_at v) h
    ∙ ap (λ b. if b then (short, []) else (too_large, drop MAX_HEAD_BYTES v)) less

-- so many bytes were taken, with no head among them
pub record Taken (old new : Option (List ℕ)) (taken : List ℕ) (count : ℕ) : Type 0 where
  pub told : Consumes old new taken
  pub none : head_len taken ≡ None
  pub size : length taken ≡ count

-- one take after another
pub consumes_more : (old mid new : Option (List ℕ)) (v p : List ℕ) → Consumes old mid v → Consumes mid new p → Consumes old new (v ++ p)
consumes_more None mid new v p a b = tt
consumes_more (Some xs) None new v p a b = absurd a
consumes_more (Some xs) (Some ys) None v p a b = absurd b
consumes_more (Some xs) (Some ys) (Some zs) v p a b = a ∙ ap (λ m. v ++ m) b ∙ sym (append_assoc v p zs)

pub takes_more : (old mid new : Option (List ℕ)) → TakesFront old mid → TakesFront mid new → TakesFront old new
takes_more old mid new (v, a) (p, b) = (v ++ p, consumes_more old mid new v p a b)

pub one_byte : (m : ℕ) (buf : List ℕ) → (m ≡ 0 → ⊥) → m ≤ length buf → length buf ≡ 1 → take m buf ≡ get_or buf 0 0 ∷ []
one_byte m [] n a b = absurd (omega arith)
one_byte m (x ∷ y ∷ buf) n a b = absurd (omega arith)
one_byte zero (x ∷ []) n a b = absurd (n refl)
one_byte (suc zero) (x ∷ []) n a b = refl
one_byte (suc (suc m)) (x ∷ []) n a b = absurd (omega arith)

-- what is told of a list that was taken, and of what is left
pub tells_from : (P : List ℕ → List ℕ → Type 0) (old new : Option (List ℕ)) (v : List ℕ) → Consumes old new v
    → ((rest : List ℕ) → new ≡ Some rest → P (v ++ rest) rest) → Tells old new P
tells_from P None new v a f = tt
tells_from P (Some xs) None v a f = absurd a
tells_from P (Some xs) (Some ys) v a f = subst (λ l. P l ys) (sym a) (f ys refl)

-- one byte more, and no head yet
pub taken_more : (old mid new : Option (List ℕ)) (v w : List ℕ) (b n : ℕ) (e : Bool) → Taken old mid v n → Consumes mid new (b ∷ [])
    → w ≡ v ++ b ∷ [] → e ≡ ends_with nat_eq w empty_line → e ≡ false → Taken old new w (n + 1)
taken_more old mid new v w b n e t a same test fails = record {
  told = subst (λ l. Consumes old new l) (sym same) (consumes_more old mid new v (b ∷ []) t.told a);
  none = ap head_len same ∙ head_len-snoc v b t.none ∙ ap (pick (length v + 1)) (ap ends (sym same) ∙ sym test ∙ fails);
  size = ap length same ∙ length-append v (b ∷ []) ∙ ap (λ k. k + 1) t.size;
}

-- the head is whole
pub record Whole (old new : Option (List ℕ)) (head : List ℕ) : Type 0 where
  pub told : Consumes old new head
  pub found : head_len head ≡ Some (length head)
  pub size : length head ≤ MAX_HEAD_BYTES

-- the byte was read into a buffer of one
pub whole_read : (old mid new : Option (List ℕ)) (v w buf : List ℕ) (m n : ℕ) (e : Bool) → Taken old mid v n → (m ≡ 0 → ⊥) → m ≤ length buf → length buf ≡ 1
    → Consumes mid new (take m buf) → w ≡ v ++ get_or buf 0 0 ∷ [] → e ≡ ends_with nat_eq w empty_line → e ≡ true → n < MAX_HEAD_BYTES → Whole old new w
whole_read old mid new v w buf m n e t some room one got same test holds less =
    let b = get_or buf 0 0 in
    let last = subst (λ l. Consumes mid new l) (one_byte m buf some room one) got in
    let size : length w ≡ length v + 1 = ap length same ∙ length-append v (b ∷ []) in record {
      told = subst (λ l. Consumes old new l) (sym same) (consumes_more old mid new v (b ∷ []) t.told last);
      found = ap head_len same ∙ head_len-snoc v b t.none ∙ ap (pick (length v + 1)) (ap ends (sym same) ∙ sym test ∙ holds) ∙ ap (λ k. Some k) (sym size);
      size = let s = t.size in omega arith;
    }

pub whole_opens : (old new : Option (List ℕ)) (head : List ℕ) (many : Bool) → Whole old new head → nat_lt MAX_HEAD_LINES (count_by is_line_feed head) ≡ many
    → Tells old new (λ bytes rest. opening_of bytes ≡ (if many then (too_large, rest) else (opened head, rest)))
whole_opens old new head many w lines =
    tells_from (λ bytes rest. opening_of bytes ≡ (if many then (too_large, rest) else (opened head, rest))) old new head w.told
    (λ rest e. opening-front head rest many w.found w.size lines)

pub taken_all : (old new : Option (List ℕ)) (v : List ℕ) (n : ℕ) → Taken old new v n → n ≡ MAX_HEAD_BYTES
    → Tells old new (λ bytes rest. opening_of bytes ≡ (too_large, rest))
taken_all old new v n t e =
    tells_from (λ bytes rest. opening_of bytes ≡ (too_large, rest)) old new v t.told (λ rest q. opening-long v rest t.none (t.size ∙ e))

pub taken_ended : (old mid new : Option (List ℕ)) (v : List ℕ) (n : ℕ) → Taken old mid v n → n < MAX_HEAD_BYTES → Consumes mid new [] → IsAtEnd new
    → Tells old new (λ bytes rest. opening_of bytes ≡ (short, rest))
taken_ended None mid new v n t less a e = tt
taken_ended (Some xs) None new v n t less a e = absurd t.told
taken_ended (Some xs) (Some ys) None v n t less a e = absurd a
taken_ended (Some xs) (Some ys) (Some zs) v n t less a e =
    let whole : xs ≡ v = t.told ∙ ap (λ m. v ++ m) (a ∙ e) ∙ append-nil v in
    ap opening_of whole ∙ opening-short v t.none (let s = t.size in omega arith) ∙ ap (λ r. (short, r)) (sym e)
