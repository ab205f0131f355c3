-- The variables of a job, of all layers: in the order of their names, each with its first value.
use Rattle.std.proofs.Common.{◌≡◌, ℕ, Bool, true, false, not, List, [], ◌∷◌, map, if◌then◌else◌, Some, nat_cmp, is_eq, is_lt, Less, refl, sym, ap, ◌∙◌, inl, inr, ⊎_elim}
use Rattle.std.specs.List.{AllByRecursion}
use Rattle.std.specs.Str.{bytes_eq}
use Rattle.std.specs.Cmp.{IsTotalOrder}
use Rattle.std.specs.Cmp.Lexicographic.{slice_cmp}
use Rattle.std.specs.List.Sorted.{IsStrictlySortedBy}
use Rattle.std.proofs.lemmas.Bool.{cond_both, cond-false, both_ways, cases_Bool, false≢true}
use Rattle.std.proofs.lemmas.Cmp.{on_total, nat_list_cmp_total}
use Rattle.std.proofs.lemmas.Map.Text.{is_eq-slice_cmp}
use Rattle.std.proofs.lemmas.Slice.Eq.{bytes_eq-Decides}
use Rattle.ci_machine_steps.specs.Prelude.{Variables, meaning_of, placed, others, put, name_cmp, merged}
use Rattle.ci_machine.proofs.Keyed.{Has, has_filter}
use Rattle.ci_machine_steps.proofs.Variables.{Ordered, put_ordered}

abbrev Pair : Type 0
Pair = List ℕ × List ℕ

-- ---- their order

name_total : IsTotalOrder name_cmp
name_total = on_total (λ (v : Pair). v.0) nat_list_cmp_total

pub merged_ordered : (vs : Variables) → Ordered name_cmp (merged vs)
merged_ordered [] = tt
merged_ordered (v ∷ vs) = put_ordered name_cmp name_total v (merged vs) (merged_ordered vs)

all_less : (z : Pair) (zs : List Pair) → ((v : Pair) → Has v zs → name_cmp z v ≡ Less) → AllByRecursion (λ k. slice_cmp nat_cmp z.0 k ≡ Less) (map (λ v. v.0) zs)
all_less z [] h = tt
all_less z (v ∷ vs) h = (h v (inl refl), all_less z vs (λ w k. h w (inr k)))

ascend : (vs : List Pair) → Ordered name_cmp vs → IsStrictlySortedBy (slice_cmp nat_cmp) (map (λ v. v.0) vs)
unfolding IsStrictlySortedBy
ascend [] r = tt
ascend (z ∷ zs) r = (all_less z zs r.0, ascend zs r.1)

pub merged_ascend : (vs : Variables) → IsStrictlySortedBy (slice_cmp nat_cmp) (map (λ v. v.0) (merged vs))
merged_ascend vs = ascend (merged vs) (merged_ordered vs)

-- ---- their values

same_name : (a b name : List ℕ) → bytes_eq a b ≡ true → bytes_eq a name ≡ bytes_eq b name
same_name a b name e = ap (λ w. bytes_eq w name) ((bytes_eq-Decides a b).0 e)

others_mean : (v : Pair) (name : List ℕ) (xs : List Pair) → bytes_eq v.0 name ≡ false → meaning_of (others name_cmp v xs) name ≡ meaning_of xs name
others_mean v name [] e = refl
others_mean v name (z ∷ zs) e =
    cond_both (not (is_eq (name_cmp z v))) (z ∷ others name_cmp v zs) (others name_cmp v zs) (λ l. meaning_of l name ≡ meaning_of (z ∷ zs) name)
    (λ _. ap (λ m. if bytes_eq z.0 name then Some z.1 else m) (others_mean v name zs e))
    (λ gone. others_mean v name zs e
    ∙ sym (cond-false (bytes_eq z.0 name) (Some z.1) (meaning_of zs name) (same_name z.0 v.0 name (sym (is_eq-slice_cmp z.0 v.0) ∙ not_not (is_eq (name_cmp z v)) gone) ∙ e)))
  where
    not_not : (b : Bool) → not b ≡ false → b ≡ true
    not_not true e = refl
    not_not false e = absurd (false≢true (sym e))

-- none of the list has its name
abbrev Lacks : Pair → List Pair → Type 0
Lacks v xs = (y : Pair) → Has y xs → is_eq (name_cmp y v) ≡ false

placed_mean : (v : Pair) (name : List ℕ) (xs : List Pair) → Lacks v xs → meaning_of (placed name_cmp v xs) name ≡ (if bytes_eq v.0 name then Some v.1 else meaning_of xs name)
placed_mean v name [] h = refl
placed_mean v name (z ∷ zs) h =
    cond_both (is_lt (name_cmp z v)) (z ∷ placed name_cmp v zs) (v ∷ z ∷ zs) (λ l. meaning_of l name ≡ (if bytes_eq v.0 name then Some v.1 else meaning_of (z ∷ zs) name))
    (λ _. ap (λ m. if bytes_eq z.0 name then Some z.1 else m) (placed_mean v name zs (λ y k. h y (inr k))) ∙ swap)
    (λ _. refl)
  where
    -- both can't have the name
    swap : (if bytes_eq z.0 name then Some z.1 else (if bytes_eq v.0 name then Some v.1 else meaning_of zs name)) ≡ (if bytes_eq v.0 name then Some v.1 else (if bytes_eq z.0 name then Some z.1 else meaning_of zs name))
    swap =
        ⊎_elim
        (λ z_has. ⊎_elim
        (λ v_has. absurd (both_ways (is_eq (name_cmp z v)) (h z (inl refl)) (is_eq-slice_cmp z.0 v.0 ∙ (bytes_eq-Decides z.0 v.0).1 ((bytes_eq-Decides z.0 name).0 z_has ∙ sym ((bytes_eq-Decides v.0 name).0 v_has)))))
        (λ v_not. rw z_has (rw v_not refl))
        (cases_Bool (bytes_eq v.0 name)))
        (λ z_not. rw z_not refl)
        (cases_Bool (bytes_eq z.0 name))

put_mean : (v : Pair) (name : List ℕ) (xs : List Pair) → meaning_of (put name_cmp v xs) name ≡ (if bytes_eq v.0 name then Some v.1 else meaning_of xs name)
put_mean v name xs =
    placed_mean v name (others name_cmp v xs) (λ y k. not_so (is_eq (name_cmp y v)) (has_filter (λ w. not (is_eq (name_cmp w v))) y xs k).1)
    ∙ ⊎_elim (λ e. rw e refl) (λ e. rw e (others_mean v name xs e)) (cases_Bool (bytes_eq v.0 name))
  where
    not_so : (b : Bool) → not b ≡ true → b ≡ false
    not_so true e = absurd (false≢true e)
    not_so false e = refl

pub merged_mean : (vs : Variables) (name : List ℕ) → meaning_of (merged vs) name ≡ meaning_of vs name
merged_mean [] name = refl
merged_mean (v ∷ vs) name = put_mean v name (merged vs) ∙ ap (λ m. if bytes_eq v.0 name then Some v.1 else m) (merged_mean vs name)
