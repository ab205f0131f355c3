-- Traces, and the lists of their blocks.
use Rattle.ci_store.specs.Prelude.{IsAscending, placed, put, trace_cmp, trace_in, bytes_or_none, with_bytes, Trace}
use Rattle.ci_store_rows.specs.Prelude.{Block, BLOCK_BYTES, block_at, block_count, blocks_of, block_sizes, all_blocks, last_block, StaysWithin, Rises}
use Rattle.std.proofs.Common.{All}
use Rattle.std.proofs.Math.Seq.{take-add}
use Rattle.std.proofs.lemmas.List.{length-take, length-drop, drop-drop, drop_all, drop-append-le, take_all, take-append-le, append_assoc, append-nil}
use Rattle.std.proofs.lemmas.List.FromFn.{map-range_with_len_more, take-map-range_with_len, length-map-range_with_len}
use Rattle.std.proofs.lemmas.List.Sorted.{IsPermutation-refl, IsPermutation-trans, IsPermutation-cons, IsPermutation-to_front, IsPermutation-append_left}
use Rattle.std.proofs.lemmas.List.Sorted.{IsPermutation-append_right, IsPermutation-append_comm, IsPermutation-sym}
use Rattle.sqlite_keyed.proofs.ListLemmas.{map-map, map_back, map_same}
use Rattle.ci_store_rows.proofs.Words.{◌≡◌, ◌≢◌, ◌∙◌, ◌<◌, ◌≤◌, ◌==◌, ◌&&◌, ℕ, zero, suc, ◌+◌, ◌-◌, ◌*◌, ◌%◌, List, [], ◌∷◌, ◌++◌, map, filter, find, take, drop, length, min}
use Rattle.ci_store_rows.proofs.Words.{Bool, true, false, not, cond, is_eq, is_lt, Ordering, Less, Equal, Greater, Option, Some, None, refl, sym, ap, subst, arith}
use Rattle.ci_store_rows.proofs.Words.{IsPermutation, ne_eqb, length-append, IfSome, nat_cmp, AllByRecursion, flat_map, range_with_len, last_or, ordering_reverse}
use Rattle.ci_store_rows.proofs.Words.{nat_cmp_total, eqb-true, eq-eqb, lt-ltb, filter-append, All-from_recursion, IsPermutation-same, IsPermutation-filter, filter-filter}
use Rattle.ci_store_rows.proofs.Words.{ascending-map, all_weaker, all_from, has_filtered, filter_all, filter_none, all-flat_map, all-map, IsPermutation-flat_map, not-true}
use Rattle.ci_store_rows.proofs.Records.{is_number}
use Rattle.ci_store_rows.proofs.Lists.{inserted}

abbrev pub trace : ℕ → List ℕ → Trace
trace n bytes = record { attempt = n; bytes = bytes }

abbrev pub block : ℕ → List ℕ → ℕ → Block
block n bytes seq = record { attempt = n; seq = seq; bytes = block_at bytes seq }

-- the first blocks of a trace
abbrev pub first_blocks : ℕ → List ℕ → ℕ → List Block
first_blocks n bytes count = map (block n bytes) (range_with_len 0 count)

-- ---- one trace

-- what stands behind a whole block changes nothing of it
before_the_end : (xs ys : List ℕ) (b k : ℕ) → k + b ≤ length xs → take b (drop k (xs ++ ys)) ≡ take b (drop k xs)
before_the_end xs ys b k low =
    ap (take b) (drop-append-le k xs ys (omega (arith, low))) ∙ take-append-le b (drop k xs) ys (omega (arith, low, length-drop k xs))

-- the block in which a trace ends has what is behind its whole blocks
at_the_end : (xs : List ℕ) (b k : ℕ) → length xs ≤ k + b → take b (drop k xs) ≡ drop k xs
at_the_end xs b k high = take_all b (drop k xs) (omega (arith, high, length-drop k xs))

joined_from : (bytes : List ℕ) (n a count : ℕ) → flat_map (λ b. b.bytes) (map (block n bytes) (range_with_len a count)) ≡ take (count * BLOCK_BYTES) (drop (a * BLOCK_BYTES) bytes)
joined_from bytes n a zero = refl
joined_from bytes n a (suc count) =
    let behind : a * BLOCK_BYTES + BLOCK_BYTES ≡ (a + 1) * BLOCK_BYTES = omega arith in
    let all : BLOCK_BYTES + count * BLOCK_BYTES ≡ suc count * BLOCK_BYTES = omega arith in
    ap (λ l. block_at bytes a ++ l) (joined_from bytes n (a + 1) count ∙ ap (take (count * BLOCK_BYTES)) (ap (λ k. drop k bytes) (sym behind) ∙ sym (drop-drop BLOCK_BYTES (a * BLOCK_BYTES) bytes)))
    ∙ sym (take-add BLOCK_BYTES (count * BLOCK_BYTES) (drop (a * BLOCK_BYTES) bytes))
    ∙ ap (λ k. take k (drop (a * BLOCK_BYTES) bytes)) all

-- the bytes of the blocks, joined, are the trace
pub joined : (t : Trace) → flat_map (λ b. b.bytes) (blocks_of t) ≡ t.bytes
joined t = joined_from t.bytes t.attempt 0 (block_count (length t.bytes)) ∙ take_all (block_count (length t.bytes) * BLOCK_BYTES) t.bytes (omega arith)

-- ---- bytes that stay within a block

-- the blocks but that at a place of the trace of an attempt
abbrev pub is_at : ℕ → ℕ → Block → Bool
is_at n seq b = (b.attempt == n) && (b.seq == seq)

abbrev pub others_at : ℕ → ℕ → List Block → List Block
others_at n seq bs = filter (λ b. not (is_at n seq b)) bs

module _ (n : ℕ) (old more : List ℕ) (seq : ℕ) (bytes : List ℕ) (h : StaysWithin old more seq bytes) where
  same_before : (a count : ℕ) → a + count ≤ seq → map (block n (old ++ more)) (range_with_len a count) ≡ map (block n old) (range_with_len a count)
  same_before a zero low = refl
  same_before a (suc count) low =
      let here = before_the_end old more BLOCK_BYTES (a * BLOCK_BYTES) (omega (arith, h.place, low)) in
      let behind = same_before (a + 1) count (omega (arith, low)) in
      λ i. record { attempt = n; seq = a; bytes = here i } ∷ behind i

  other : (b : Bool) (a : ℕ) → a ≢ seq → (b && (a == seq)) ≡ false
  other true a apart = ne_eqb a seq apart
  other false a apart = refl

  kept_before : (a count : ℕ) → a + count ≤ seq → others_at n seq (map (block n old) (range_with_len a count)) ≡ map (block n old) (range_with_len a count)
  kept_before a zero low = refl
  kept_before a (suc count) low =
      (λ i. cond (not (other (n == n) a (λ same. omega (arith, low, same)) i)) (block n old a ∷ others_at n seq (map (block n old) (range_with_len (a + 1) count))) (others_at n seq (map (block n old) (range_with_len (a + 1) count))))
      ∙ ap (λ l. block n old a ∷ l) (kept_before (a + 1) count (omega (arith, low)))

  gone : others_at n seq (block n old seq ∷ []) ≡ []
  gone = λ i. cond (not (eq-eqb n n refl i && eq-eqb seq seq refl i)) (block n old seq ∷ []) []

  kept : others_at n seq (blocks_of (trace n old)) ≡ first_blocks n old seq
  kept = go (length old % BLOCK_BYTES) refl
    where
      go : (rest : ℕ) → length old % BLOCK_BYTES ≡ rest → others_at n seq (first_blocks n old (block_count (length old))) ≡ first_blocks n old seq
      go zero whole = ap (λ count. others_at n seq (first_blocks n old count)) (omega (arith, h.place, whole)) ∙ kept_before 0 seq (omega arith)
      go (suc rest) part =
          ap (λ count. others_at n seq (first_blocks n old count)) (omega (arith, h.place, part))
          ∙ ap (others_at n seq) (map-range_with_len_more (block n old) 0 seq seq (omega arith))
          ∙ filter-append (λ b. not (is_at n seq b)) (first_blocks n old seq) (block n old seq ∷ [])
          ∙ (λ i. kept_before 0 seq (omega arith) i ++ gone i)
          ∙ append-nil (first_blocks n old seq)

  last_is : block_at (old ++ more) seq ≡ bytes
  last_is =
      ap (take BLOCK_BYTES) (drop-append-le (seq * BLOCK_BYTES) old more (omega (arith, h.place)))
      ∙ take_all BLOCK_BYTES (drop (seq * BLOCK_BYTES) old ++ more) (omega (arith, h.place, h.fits, length-append (drop (seq * BLOCK_BYTES) old) more, length-drop (seq * BLOCK_BYTES) old))
      ∙ ap (λ l. l ++ more) (sym (at_the_end old BLOCK_BYTES (seq * BLOCK_BYTES) (omega (arith, h.place))))
      ∙ sym h.is

  grown_is : blocks_of (trace n (old ++ more)) ≡ first_blocks n old seq ++ record { attempt = n; seq = seq; bytes = bytes } ∷ []
  grown_is =
      ap (first_blocks n (old ++ more)) (omega (arith, h.place, h.fits, h.some, length-append old more))
      ∙ map-range_with_len_more (block n (old ++ more)) 0 seq seq (omega arith)
      ∙ (λ i. same_before 0 seq (omega arith) i ++ record { attempt = n; seq = seq; bytes = last_is i } ∷ [])

  -- the blocks of the trace are then those that it had but for one, and that one as it is then
  grown : IsPermutation (record { attempt = n; seq = seq; bytes = bytes } ∷ others_at n seq (blocks_of (trace n old))) (blocks_of (trace n (old ++ more)))
  grown =
      subst (λ l. IsPermutation (record { attempt = n; seq = seq; bytes = bytes } ∷ l) (blocks_of (trace n (old ++ more)))) (sym kept)
      (subst (IsPermutation (record { attempt = n; seq = seq; bytes = bytes } ∷ first_blocks n old seq)) (sym grown_is) (IsPermutation-sym _ _ (IsPermutation-to_front (first_blocks n old seq) _)))

-- ---- the trace of one attempt among all

-- the traces of the other attempts
abbrev pub of_others : ℕ → List Trace → List Trace
of_others n ts = filter (λ t. not (is_eq (nat_cmp t.attempt n))) ts

above_apart : (m n : ℕ) → nat_cmp m n ≡ Less → m ≢ n
above_apart m n low same = absurd (let e : nat_cmp n n ≡ Less = subst (λ x. nat_cmp x n ≡ Less) same low in let f : is_eq (nat_cmp n n) ≡ true = is_number n n ∙ eq-eqb n n refl in cc)

test_above : (n : ℕ) (t u : Trace) → t.attempt ≡ n → nat_cmp t.attempt u.attempt ≡ Less → (u.attempt == n) ≡ false
test_above n t u is low = ne_eqb u.attempt n (λ same. above_apart t.attempt u.attempt low (is ∙ sym same))

-- those above the trace of an attempt are of others
all_others : (n : ℕ) (t : Trace) (ts : List Trace) → t.attempt ≡ n → AllByRecursion (λ u. nat_cmp t.attempt u.attempt ≡ Less) ts → of_others n ts ≡ ts
all_others n t ts is up = filter_all _ ts (all_weaker _ _ (λ u low. ap not (is_number u.attempt n ∙ test_above n t u is low)) ts up)

apart : (n : ℕ) (ts : List Trace) → AllByRecursion (λ t. (t.attempt == n) ≡ false) (of_others n ts)
apart n ts = all_from _ (of_others n ts) (λ t h. sym (is_number t.attempt n) ∙ not-true _ (has_filtered (λ t. not (is_eq (nat_cmp t.attempt n))) ts t h).1)

-- all blocks are those of one trace, which may be empty, and those of the others
pub parted : (n : ℕ) (ts : List Trace) → Rises trace_cmp ts → IsPermutation (blocks_of (trace n (trace_in n ts)) ++ all_blocks (of_others n ts)) (all_blocks ts)
parted n [] up = IsPermutation-refl _
parted n (t ∷ ts) up =
    subst (λ b. IsPermutation (blocks_of (trace n (trace_in n (t ∷ ts))) ++ all_blocks (cond (not b) (t ∷ of_others n ts) (of_others n ts))) (all_blocks (t ∷ ts))) (sym (is_number t.attempt n)) (go (t.attempt == n) refl (parted n ts up.1))
  where
    go : (b : Bool) → (t.attempt == n) ≡ b → IsPermutation (blocks_of (trace n (trace_in n ts)) ++ all_blocks (of_others n ts)) (all_blocks ts)
        → IsPermutation (blocks_of (trace n (bytes_or_none (cond b (Some t) (find (λ t. t.attempt == n) ts)))) ++ all_blocks (cond (not b) (t ∷ of_others n ts) (of_others n ts))) (all_blocks (t ∷ ts))
    go true is more =
        let same = eqb-true t.attempt n is in
        IsPermutation-same _ _ (λ i. blocks_of (trace (sym same i) t.bytes) ++ all_blocks (all_others n t ts same up.0 i))
    go false is more =
        IsPermutation-trans _ _ _ (IsPermutation-same _ _ (sym (append_assoc (blocks_of (trace n (trace_in n ts))) (blocks_of t) (all_blocks (of_others n ts)))))
        (IsPermutation-trans _ _ _ (IsPermutation-append_left (all_blocks (of_others n ts)) _ _ (IsPermutation-append_comm (blocks_of (trace n (trace_in n ts))) (blocks_of t)))
        (IsPermutation-trans _ _ _ (IsPermutation-same _ _ (append_assoc (blocks_of t) (blocks_of (trace n (trace_in n ts))) (all_blocks (of_others n ts))))
        (IsPermutation-append_right (blocks_of t) _ _ more)))

filter_const : {X Y : Type 0} (p : Y → Bool) (f : X → Y) (b : Bool) → ((x : X) → p (f x) ≡ b) → (xs : List X) → filter p (map f xs) ≡ cond b (map f xs) []
filter_const p f true same xs = filter_all p (map f xs) (all-map (λ y. p y ≡ true) f same xs)
filter_const p f false same xs = filter_none p (map f xs) (all-map (λ y. p y ≡ false) f same xs)

-- no block of another attempt is at a place of this one's trace
others_stay : (n seq : ℕ) (ts : List Trace) → others_at n seq (all_blocks (of_others n ts)) ≡ all_blocks (of_others n ts)
others_stay n seq ts =
    filter_all (λ b. not (is_at n seq b)) _ (all-flat_map (λ b. not (is_at n seq b) ≡ true) blocks_of (of_others n ts)
    (all_weaker (λ t. (t.attempt == n) ≡ false) _ (λ t other. all-map _ (block t.attempt t.bytes) (λ at. ap (λ b. not (b && (at == seq))) other) (range_with_len 0 (block_count (length t.bytes)))) _ (apart n ts)))

-- bytes that stay within a block change that block alone
pub block_put : (n : ℕ) (more : List ℕ) (seq : ℕ) (bytes : List ℕ) (ts : List Trace) → Rises trace_cmp ts → StaysWithin (trace_in n ts) more seq bytes
    → IsPermutation (record { attempt = n; seq = seq; bytes = bytes } ∷ others_at n seq (all_blocks ts)) (all_blocks (with_bytes (trace n more) ts))
block_put n more seq bytes ts up h =
    let b : Block = record { attempt = n; seq = seq; bytes = bytes } in
    let old = blocks_of (trace n (trace_in n ts)) in
    let rest = all_blocks (of_others n ts) in
    IsPermutation-trans _ _ _ (IsPermutation-cons b _ _ (IsPermutation-filter (λ b. not (is_at n seq b)) _ _ (IsPermutation-sym _ _ (parted n ts up))))
    (IsPermutation-trans _ _ _ (IsPermutation-same _ _ (ap (λ l. b ∷ l) (filter-append (λ b. not (is_at n seq b)) old rest ∙ ap (λ l. others_at n seq old ++ l) (others_stay n seq ts))))
    (IsPermutation-trans _ _ _ (IsPermutation-append_left rest _ _ (grown n (trace_in n ts) more seq bytes h))
    (IsPermutation-flat_map blocks_of _ _ (inserted trace_cmp (trace n (trace_in n ts ++ more)) (of_others n ts)))))

-- ---- the whole trace of an attempt

-- where it goes, its blocks go
pub blocks_without : (n : ℕ) (ts : List Trace) → all_blocks (of_others n ts) ≡ filter (λ b. not (is_eq (nat_cmp b.attempt n))) (all_blocks ts)
blocks_without n [] = refl
blocks_without n (t ∷ ts) = go (is_eq (nat_cmp t.attempt n)) refl (blocks_without n ts)
  where
    own : (e : Bool) → is_eq (nat_cmp t.attempt n) ≡ e → filter (λ b. not (is_eq (nat_cmp b.attempt n))) (blocks_of t) ≡ cond (not e) (blocks_of t) []
    own e is = filter_const _ (block t.attempt t.bytes) (not e) (λ seq. ap not is) (range_with_len 0 (block_count (length t.bytes)))

    go : (e : Bool) → is_eq (nat_cmp t.attempt n) ≡ e → all_blocks (of_others n ts) ≡ filter (λ b. not (is_eq (nat_cmp b.attempt n))) (all_blocks ts)
        → all_blocks (cond (not e) (t ∷ of_others n ts) (of_others n ts)) ≡ filter (λ b. not (is_eq (nat_cmp b.attempt n))) (all_blocks (t ∷ ts))
    go true is more = (λ i. sym (own true is) i ++ more i) ∙ sym (filter-append _ (blocks_of t) (all_blocks ts))
    go false is more = (λ i. sym (own false is) i ++ more i) ∙ sym (filter-append _ (blocks_of t) (all_blocks ts))

none_above : (n : ℕ) (t : Trace) (ts : List Trace) → t.attempt ≡ n → AllByRecursion (λ u. nat_cmp t.attempt u.attempt ≡ Less) ts → filter (λ b. b.attempt == n) (all_blocks ts) ≡ []
none_above n t ts is up =
    filter_none (λ b. b.attempt == n) (all_blocks ts) (all-flat_map (λ b. (b.attempt == n) ≡ false) blocks_of ts
    (all_weaker _ _ (λ u low. all-map _ (block u.attempt u.bytes) (λ seq. test_above n t u is low) (range_with_len 0 (block_count (length u.bytes)))) ts up))

-- the blocks of one attempt among all are those of its trace
pub blocks_of_one : (n : ℕ) (ts : List Trace) → Rises trace_cmp ts → filter (λ b. b.attempt == n) (all_blocks ts) ≡ blocks_of (trace n (trace_in n ts))
blocks_of_one n [] up = refl
blocks_of_one n (t ∷ ts) up = filter-append (λ b. b.attempt == n) (blocks_of t) (all_blocks ts) ∙ go (t.attempt == n) refl (blocks_of_one n ts up.1)
  where
    go : (e : Bool) → (t.attempt == n) ≡ e → filter (λ b. b.attempt == n) (all_blocks ts) ≡ blocks_of (trace n (trace_in n ts))
        → filter (λ b. b.attempt == n) (blocks_of t) ++ filter (λ b. b.attempt == n) (all_blocks ts) ≡ blocks_of (trace n (bytes_or_none (cond e (Some t) (find (λ t. t.attempt == n) ts))))
    go true is more =
        let same = eqb-true t.attempt n is in
        (λ i. filter_const (λ b. b.attempt == n) (block t.attempt t.bytes) true (λ seq. is) (range_with_len 0 (block_count (length t.bytes))) i ++ none_above n t ts same up.0 i)
        ∙ append-nil (blocks_of t)
        ∙ (λ i. blocks_of (trace (same i) t.bytes))
    go false is more = λ i. filter_const (λ b. b.attempt == n) (block t.attempt t.bytes) false (λ seq. is) (range_with_len 0 (block_count (length t.bytes))) i ++ more i

lower : (a b : ℕ) → a < b → nat_cmp a b ≡ Less
lower a b low = ap (λ t. cond t Less (cond (a == b) Equal Greater)) (lt-ltb a b low)

numbers_rise : (a count : ℕ) → IsAscending (λ a b. nat_cmp a b ≡ Less) (range_with_len a count)
numbers_rise a zero = tt
numbers_rise a (suc count) = (all_above a (a + 1) count (omega arith), numbers_rise (a + 1) count)
  where
    all_above : (low a count : ℕ) → low < a → AllByRecursion (λ b. nat_cmp low b ≡ Less) (range_with_len a count)
    all_above low a zero h = tt
    all_above low a (suc count) h = (lower low a h, all_above low (a + 1) count (omega (arith, h)))

-- the blocks of a trace stand in the order of their places
pub places_rise : (t : Trace) → IsAscending (λ b c. nat_cmp b.seq c.seq ≡ Less) (blocks_of t)
places_rise t = ascending-map (λ b c. nat_cmp b.seq c.seq ≡ Less) (block t.attempt t.bytes) (range_with_len 0 (block_count (length t.bytes))) (numbers_rise 0 (block_count (length t.bytes)))

-- ---- the last block

last_behind : {A : Type 0} (o : Option A) (xs : List A) (x : A) → last_or o (xs ++ x ∷ []) ≡ Some x
last_behind o [] x = refl
last_behind o (y ∷ xs) x = last_behind (Some y) xs x

last_of : (t : Trace) (count : ℕ) → last_or None (first_blocks t.attempt t.bytes (suc count)) ≡ Some (block t.attempt t.bytes count)
last_of t count =
    let one_more : suc count ≡ count + 1 = omega arith in
    ap (last_or None) (ap (first_blocks t.attempt t.bytes) one_more ∙ map-range_with_len_more (block t.attempt t.bytes) 0 count count (omega arith)) ∙ last_behind None (first_blocks t.attempt t.bytes count) _

-- a trace without a last block is empty
pub no_last : (t : Trace) → last_block t ≡ None → length t.bytes ≡ 0
no_last t none = go (block_count (length t.bytes)) refl none
  where
    go : (count : ℕ) → block_count (length t.bytes) ≡ count → last_or None (first_blocks t.attempt t.bytes count) ≡ None → length t.bytes ≡ 0
    go zero is h = omega (arith, is)
    go (suc count) is h = absurd (let e : Some (block t.attempt t.bytes count) ≡ None = sym (last_of t count) ∙ h in cc)

-- what the last block says of its trace
pub record EndsWith (t : Trace) (b : Block) : Type 0 where
  pub attempt : b.attempt ≡ t.attempt
  pub size : length t.bytes ≡ b.seq * BLOCK_BYTES + length b.bytes
  pub some : 0 < length b.bytes
  pub within : length b.bytes ≤ BLOCK_BYTES
  pub is : b.bytes ≡ block_at t.bytes b.seq

pub its_last : (t : Trace) (b : Block) → last_block t ≡ Some b → EndsWith t b
its_last t b last = go (block_count (length t.bytes)) refl last
  where
    go : (count : ℕ) → block_count (length t.bytes) ≡ count → last_or None (first_blocks t.attempt t.bytes count) ≡ Some b → EndsWith t b
    go zero is h = absurd (let e = h in cc)
    go (suc count) is h =
        let long = length-take BLOCK_BYTES (drop (count * BLOCK_BYTES) t.bytes) in
        let rest = length-drop (count * BLOCK_BYTES) t.bytes in
        let same : Some (block t.attempt t.bytes count) ≡ Some b = sym (last_of t count) ∙ h in
        let it : block t.attempt t.bytes count ≡ b = cc in
        subst (EndsWith t) it (record { attempt = refl; size = omega (arith, is, long, rest); some = omega (arith, is, long, rest); within = omega (arith, long); is = refl })

-- ---- what is said of all blocks of a trace

-- how many bytes each block has where the trace has so many
abbrev pub sizes_for : ℕ → List ℕ
sizes_for size = map (λ seq. min BLOCK_BYTES (size - seq * BLOCK_BYTES)) (range_with_len 0 (block_count size))

pub sizes : (t : Trace) (size : ℕ) → length t.bytes ≡ size → block_sizes t ≡ sizes_for size
sizes t size is =
    map-map (λ (b : Block). length b.bytes) (block t.attempt t.bytes) _
    ∙ map_same _ _ (λ at. length-take BLOCK_BYTES (drop (at * BLOCK_BYTES) t.bytes) ∙ ap (min BLOCK_BYTES) (length-drop (at * BLOCK_BYTES) t.bytes)) (range_with_len 0 (block_count (length t.bytes))) ∙ ap sizes_for is

pub numbered : (t : Trace) → map (λ b. b.seq) (blocks_of t) ≡ range_with_len 0 (length (blocks_of t))
numbered t =
    map_back (block t.attempt t.bytes) (λ b. b.seq) (λ at. refl) (range_with_len 0 (block_count (length t.bytes)))
    ∙ ap (range_with_len 0) (sym (length-map-range_with_len (block t.attempt t.bytes) 0 (block_count (length t.bytes))))

full_from : (bytes : List ℕ) (n a count : ℕ) → (a + count) * BLOCK_BYTES ≤ length bytes → AllByRecursion (λ b. length b.bytes ≡ BLOCK_BYTES) (map (block n bytes) (range_with_len a count))
full_from bytes n a zero low = tt
full_from bytes n a (suc count) low =
    (omega (arith, low, length-take BLOCK_BYTES (drop (a * BLOCK_BYTES) bytes), length-drop (a * BLOCK_BYTES) bytes), full_from bytes n (a + 1) count (omega (arith, low)))

pub full : (t : Trace) → All (λ b. length b.bytes ≡ BLOCK_BYTES) (take (length (blocks_of t) - 1) (blocks_of t))
full t =
    let count = block_count (length t.bytes) in
    let long = length-map-range_with_len (block t.attempt t.bytes) 0 count in
    let front : take (length (blocks_of t) - 1) (blocks_of t) ≡ first_blocks t.attempt t.bytes (count - 1) = ap (λ n. take (n - 1) (blocks_of t)) long ∙ take-map-range_with_len (block t.attempt t.bytes) 0 count (count - 1) (omega arith) in
    subst (All (λ b. length b.bytes ≡ BLOCK_BYTES)) (sym front) (All-from_recursion _ _ (full_from t.bytes t.attempt 0 (count - 1) (omega arith)))

pub of_one : (t : Trace) → All (λ b. b.attempt ≡ t.attempt) (blocks_of t)
of_one t = All-from_recursion _ _ (all-map (λ b. b.attempt ≡ t.attempt) (block t.attempt t.bytes) (λ at. refl) (range_with_len 0 (block_count (length t.bytes))))

pub last_within : (t : Trace) → IfSome (last_block t) (λ b. (1 ≤ length b.bytes) × (length b.bytes ≤ BLOCK_BYTES))
last_within t = go (last_block t) refl
  where
    go : (o : Option Block) → last_block t ≡ o → IfSome o (λ b. (1 ≤ length b.bytes) × (length b.bytes ≤ BLOCK_BYTES))
    go None is = tt
    go (Some b) is = let it = its_last t b is in (omega (arith, it.some), it.within)

pub empty : (t : Trace) → t.bytes ≡ [] → blocks_of t ≡ []
empty t is = λ i. blocks_of (trace t.attempt (is i))

-- ---- bytes behind others

-- a trace that is put is the attempt's
put_in : (t : Trace) (ts : List Trace) → trace_in t.attempt (put trace_cmp t ts) ≡ t.bytes
put_in t ts = placed_in (of_others t.attempt ts) (apart t.attempt ts)
  where
    here : (us : List Trace) → trace_in t.attempt (t ∷ us) ≡ t.bytes
    here us = ap (λ b. bytes_or_none (cond b (Some t) (find (λ u. u.attempt == t.attempt) us))) (eq-eqb t.attempt t.attempt refl)

    placed_in : (us : List Trace) → AllByRecursion (λ u. (u.attempt == t.attempt) ≡ false) us → trace_in t.attempt (placed trace_cmp t us) ≡ t.bytes
    placed_in [] apart = here []
    placed_in (u ∷ us) apart =
        elim (is_lt (trace_cmp u t)) as (λ b. trace_in t.attempt (cond b (u ∷ placed trace_cmp t us) (t ∷ u ∷ us)) ≡ t.bytes)
        [ true ↦ ap (λ b. bytes_or_none (cond b (Some u) (find (λ u. u.attempt == t.attempt) (placed trace_cmp t us)))) apart.0 ∙ placed_in us apart.1 | false ↦ here (u ∷ us) ]

-- what is put in place of what was put
put_again : (s t : Trace) (ts : List Trace) → s.attempt ≡ t.attempt → put trace_cmp t (put trace_cmp s ts) ≡ put trace_cmp t ts
put_again s t ts same = ap (placed trace_cmp t) (placed_gone (of_others s.attempt ts) ∙ (λ i. of_others t.attempt (of_others (same i) ts)) ∙ filter-filter (λ u. not (is_eq (nat_cmp u.attempt t.attempt))) (λ u. not (is_eq (nat_cmp u.attempt t.attempt))) (λ u h. h) ts)
  where
    itself : is_eq (nat_cmp s.attempt t.attempt) ≡ true
    itself = is_number s.attempt t.attempt ∙ eq-eqb s.attempt t.attempt same

    placed_gone : (us : List Trace) → of_others t.attempt (placed trace_cmp s us) ≡ of_others t.attempt us
    placed_gone [] = ap (λ b. cond (not b) (s ∷ []) []) itself
    placed_gone (u ∷ us) =
        elim (is_lt (trace_cmp u s)) as (λ b. of_others t.attempt (cond b (u ∷ placed trace_cmp s us) (s ∷ u ∷ us)) ≡ of_others t.attempt (u ∷ us))
        [ true ↦ ap (λ l. cond (not (is_eq (nat_cmp u.attempt t.attempt))) (u ∷ l) l) (placed_gone us) | false ↦ ap (λ b. cond (not b) (s ∷ of_others t.attempt (u ∷ us)) (of_others t.attempt (u ∷ us))) itself ]

-- the trace, once bytes stand behind it
pub trace_grown : (n : ℕ) (more : List ℕ) (ts : List Trace) → trace_in n (with_bytes (trace n more) ts) ≡ trace_in n ts ++ more
trace_grown n more ts = put_in (trace n (trace_in n ts ++ more)) ts

-- bytes in two parts
pub in_two : (n : ℕ) (first second : List ℕ) (ts : List Trace) → with_bytes (trace n second) (with_bytes (trace n first) ts) ≡ with_bytes (trace n (first ++ second)) ts
in_two n first second ts =
    ap (λ bytes. put trace_cmp (trace n (bytes ++ second)) (with_bytes (trace n first) ts)) (trace_grown n first ts)
    ∙ put_again (trace n (trace_in n ts ++ first)) (trace n ((trace_in n ts ++ first) ++ second)) ts refl
    ∙ ap (λ bytes. put trace_cmp (trace n bytes) ts) (append_assoc (trace_in n ts) first second)

-- ---- no bytes

module _ (n : ℕ) where
  abbrev AreAbove : List Trace → Type 0
  AreAbove ts = AllByRecursion (λ u. nat_cmp n u.attempt ≡ Less) ts

  not_lower : (m : ℕ) → nat_cmp n m ≡ Less → is_lt (nat_cmp m n) ≡ false
  not_lower m low = ap is_lt (nat_cmp_total.antisymm m n ∙ ap ordering_reverse low)

  placed_first : (bytes : List ℕ) (ts : List Trace) → AreAbove ts → placed trace_cmp (trace n bytes) ts ≡ trace n bytes ∷ ts
  placed_first bytes [] up = refl
  placed_first bytes (u ∷ ts) up = ap (λ b. cond b (u ∷ placed trace_cmp (trace n bytes) ts) (trace n bytes ∷ u ∷ ts)) (not_lower u.attempt up.0)

  none_in : (ts : List Trace) → AreAbove ts → trace_in n ts ≡ []
  none_in [] up = refl
  none_in (u ∷ ts) up = ap (λ b. bytes_or_none (cond b (Some u) (find (λ u. u.attempt == n) ts))) (test_above n (trace n []) u refl up.0) ∙ none_in ts up.1

  same_blocks : (ts : List Trace) → Rises trace_cmp ts → all_blocks (put trace_cmp (trace n (trace_in n ts)) ts) ≡ all_blocks ts
  same_blocks [] up = refl
  same_blocks (t ∷ ts) up = go (nat_cmp t.attempt n) refl (same_blocks ts up.1)
    where
      found : (b : Bool) → (t.attempt == n) ≡ b → trace_in n (t ∷ ts) ≡ bytes_or_none (cond b (Some t) (find (λ u. u.attempt == n) ts))
      found b is = ap (λ b. bytes_or_none (cond b (Some t) (find (λ u. u.attempt == n) ts))) is

      go : (o : Ordering) → nat_cmp t.attempt n ≡ o → all_blocks (put trace_cmp (trace n (trace_in n ts)) ts) ≡ all_blocks ts
          → all_blocks (placed trace_cmp (trace n (trace_in n (t ∷ ts))) (cond (not (is_eq o)) (t ∷ of_others n ts) (of_others n ts))) ≡ all_blocks (t ∷ ts)
      go Less is more =
          let bytes = found false (sym (is_number t.attempt n) ∙ ap is_eq is) in
          (λ i. all_blocks (cond (is_lt (is i)) (t ∷ placed trace_cmp (trace n (bytes i)) (of_others n ts)) (trace n (bytes i) ∷ t ∷ of_others n ts))) ∙ ap (λ l. blocks_of t ++ l) more
      go Equal is more =
          let here = sym (is_number t.attempt n) ∙ ap is_eq is in
          let same = eqb-true t.attempt n here in
          (λ i. all_blocks (placed trace_cmp (trace n (found true here i)) (all_others n t ts same up.0 i)))
          ∙ ap all_blocks (placed_first t.bytes ts (subst (λ m. AllByRecursion (λ u. nat_cmp m u.attempt ≡ Less) ts) same up.0))
          ∙ (λ i. blocks_of (trace (sym same i) t.bytes) ++ all_blocks ts)
      go Greater is more =
          let low : nat_cmp n t.attempt ≡ Less = nat_cmp_total.antisymm n t.attempt ∙ ap ordering_reverse is in
          let above : AreAbove ts = all_weaker (λ u. nat_cmp t.attempt u.attempt ≡ Less) (λ u. nat_cmp n u.attempt ≡ Less) (λ u h. nat_cmp_total.trans n t.attempt u.attempt low h) ts up.0 in
          (λ i. all_blocks (placed trace_cmp (trace n (none_in (t ∷ ts) (low, above) i)) (t ∷ all_others n (trace n []) ts refl above i)))
          ∙ ap all_blocks (placed_first [] (t ∷ ts) (low, above))

-- no bytes make no block
pub no_bytes : (n : ℕ) (ts : List Trace) → Rises trace_cmp ts → all_blocks (with_bytes (trace n []) ts) ≡ all_blocks ts
no_bytes n ts up = ap (λ bytes. all_blocks (put trace_cmp (trace n bytes) ts)) (append-nil (trace_in n ts)) ∙ same_blocks n ts up

-- ---- which bytes stay within a block

-- those for which the last block has room
pub last_has_room : (t : Trace) (last : Block) (bytes : List ℕ) → last_block t ≡ Some last → 0 < length bytes → length last.bytes + length bytes ≤ BLOCK_BYTES → StaysWithin t.bytes bytes last.seq (last.bytes ++ bytes)
last_has_room t last bytes is some fits =
    let it = its_last t last is in
    record { some = some; place = omega (arith, it.size, fits, some); fits = omega (arith, it.size, fits, some); is = ap (λ l. l ++ bytes) it.is }

-- those that make a new block, where the trace ends as one does
pub new_block : (bytes block : List ℕ) (seq : ℕ) → length bytes ≡ seq * BLOCK_BYTES → 0 < length block → length block ≤ BLOCK_BYTES → StaysWithin bytes block seq block
new_block bytes block seq ends some fits =
    record { some = some; place = omega (arith, ends); fits = omega (arith, ends, fits); is = sym (ap (λ l. take BLOCK_BYTES l ++ block) (drop_all (seq * BLOCK_BYTES) bytes (omega (arith, ends)))) }
