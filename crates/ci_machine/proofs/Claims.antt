-- Which claims are on one resource group: those of who holds it, and of who goes first in it.
use Rattle.std.proofs.Common.{◌≡◌, ℕ, Bool, true, false, ◌&&◌, ◌||◌, not, ◌==◌, List, [], ◌∷◌, ◌++◌, map, filter, Option, Some, None, if◌then◌else◌, refl, sym, ap, ◌∙◌, ⊎_elim}
use Rattle.std.proofs.Common.{eqb-true}
use Rattle.std.specs.List.{list_any}
use Rattle.std.specs.Str.{bytes_eq}
use Rattle.std.proofs.lemmas.Bool.{cases_Bool, and_parts}
use Rattle.std.proofs.lemmas.List.Folds.{list_any-append}
use Rattle.std.proofs.lemmas.Slice.Eq.{bytes_eq-Decides}
use Rattle.ci_machine.specs.Prelude.{Claim, GroupMode, Holder, QueuedJob, WaitingJob, holds, claims_group, is_free, resource_free, Groups, order_of, goes_before_in, is_first}
use Rattle.ci_machine.specs.Prelude.{held_claim, waiting_claim, claims_ahead, claims_on, is_in_line, is_behind}
use Rattle.ci_machine.proofs.Tests.{any_mapped}

and_true : (b : Bool) → (b && true) ≡ b
and_true true = refl
and_true false = refl

and_false : (b : Bool) → (b && false) ≡ false
and_false true = refl
and_false false = refl

-- of those that pass the one test, some passes the other
pub any_filtered : {A : Type 0} (p q : A → Bool) (xs : List A) → list_any p (filter q xs) ≡ list_any (λ x. q x && p x) xs
any_filtered p q [] = refl
any_filtered {A} p q (x ∷ xs) = by (q x) (any_filtered p q xs)
  where
    by : (b : Bool) → list_any p (filter q xs) ≡ list_any (λ y. q y && p y) xs → list_any p (if b then x ∷ filter q xs else filter q xs) ≡ ((b && p x) || list_any (λ y. q y && p y) xs)
    by true rest = ap (λ r. p x || r) rest
    by false rest = rest

pub any_alike : {A : Type 0} (p q : A → Bool) (xs : List A) → ((x : A) → p x ≡ q x) → list_any p xs ≡ list_any q xs
any_alike p q [] e = refl
any_alike p q (x ∷ xs) e = λ i. e x i || any_alike p q xs e i

-- a waiting job claims the group where it is in line for it, and goes first by its order
one_claim : (modes : List GroupMode) (n project : ℕ) (group : List ℕ) (w : WaitingJob)
    → (is_first modes n w && is_in_line project group w) ≡ (is_in_line project group w && goes_before_in (order_of modes project group) n w)
one_claim modes n project group w =
    ⊎_elim
    (λ t.
    let both = and_parts (w.project == project) (bytes_eq w.group group) t in
    let same_project : w.project ≡ project = eqb-true w.project project both.0 in
    let same_group : w.group ≡ group = (bytes_eq-Decides w.group group).0 both.1 in
    ap (λ b. is_first modes n w && b) t ∙ (and_true (is_first modes n w)
    ∙ ((λ i. goes_before_in (order_of modes (same_project i) (same_group i)) n w)
    ∙ sym (ap (λ b. b && goes_before_in (order_of modes project group) n w) t))))
    (λ f. ap (λ b. is_first modes n w && b) f ∙ (and_false (is_first modes n w) ∙ sym (ap (λ b. b && goes_before_in (order_of modes project group) n w) f)))
    (cases_Bool (is_in_line project group w))

-- who waits claims the group where one of them goes first in it
pub any_ahead : (g : Groups) (n project : ℕ) (group : List ℕ) → list_any (claims_group project group) (claims_ahead g n) ≡ is_behind (order_of g.modes project group) g.waiting project n group
any_ahead g n project group =
    sym (any_mapped (claims_group project group) waiting_claim (filter (is_first g.modes n) g.waiting))
    ∙ (any_filtered (is_in_line project group) (is_first g.modes n) g.waiting
    ∙ any_alike (λ w. is_first g.modes n w && is_in_line project group w) (λ w. is_in_line project group w && goes_before_in (order_of g.modes project group) n w) g.waiting (one_claim g.modes n project group))

pub any_claim : (g : Groups) (n project : ℕ) (group : List ℕ)
    → list_any (claims_group project group) (claims_on g n) ≡ (list_any (holds project group) g.holders || is_behind (order_of g.modes project group) g.waiting project n group)
any_claim g n project group =
    let held = sym (any_mapped (claims_group project group) held_claim g.holders) in
    let ahead = any_ahead g n project group in
    list_any-append (claims_group project group) (map held_claim g.holders) (claims_ahead g n) ∙ (λ i. held i || ahead i)

-- in a group without an order none goes first
pub none_ahead : (waiting : List WaitingJob) (project n : ℕ) (group : List ℕ) → is_behind None waiting project n group ≡ false
none_ahead [] project n group = refl
none_ahead (w ∷ ws) project n group = (λ i. and_false (is_in_line project group w) i || none_ahead ws project n group i)

not_either : (a b : Bool) → (not a && not b) ≡ not (a || b)
not_either true b = refl
not_either false b = refl

-- a job with this group is free where it is neither held nor does another go first
pub free_by : (g : Groups) (q : QueuedJob) (group : List ℕ) → q.job.options.resource_group ≡ Some group
    → (not (list_any (holds q.project group) g.holders) && not (is_behind (order_of g.modes q.project group) g.waiting q.project q.job.pipeline group)) ≡ resource_free g q
free_by g q group e =
    not_either (list_any (holds q.project group) g.holders) (is_behind (order_of g.modes q.project group) g.waiting q.project q.job.pipeline group)
    ∙ (ap not (sym (any_claim g q.job.pipeline q.project group))
    ∙ ap (is_free (claims_on g q.job.pipeline) q.project) (sym e))

-- ---- of lists

pub free_append : (cs ds : List Claim) (project : ℕ) (group : Option (List ℕ)) → is_free (cs ++ ds) project group ≡ (is_free cs project group && is_free ds project group)
free_append cs ds project None = refl
free_append cs ds project (Some group) =
    ap not (list_any-append (claims_group project group) cs ds) ∙ sym (not_either (list_any (claims_group project group) cs) (list_any (claims_group project group) ds))

-- a group that is held is claimed, and none else by those who hold
pub free_held : (hs : List Holder) (project : ℕ) (group : List ℕ) → is_free (map held_claim hs) project (Some group) ≡ not (list_any (holds project group) hs)
free_held hs project group = ap not (sym (any_mapped (claims_group project group) held_claim hs))

pub free_ahead : (g : Groups) (n project : ℕ) (group : List ℕ)
    → is_free (claims_ahead g n) project (Some group) ≡ not (is_behind (order_of g.modes project group) g.waiting project n group)
free_ahead g n project group = ap not (any_ahead g n project group)

left_of : (a b : Bool) → (a && b) ≡ true → a ≡ true
left_of true b e = refl
left_of false b e = e

-- what is free for a pipeline isn't held
pub free_not_held : (g : Groups) (n project : ℕ) (group : Option (List ℕ)) → is_free (claims_on g n) project group ≡ true → is_free (map held_claim g.holders) project group ≡ true
free_not_held g n project group e =
    left_of (is_free (map held_claim g.holders) project group) (is_free (claims_ahead g n) project group) (sym (free_append (map held_claim g.holders) (claims_ahead g n) project group) ∙ e)
