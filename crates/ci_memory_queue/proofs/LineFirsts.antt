-- The first job of a group along a line.
use Rattle.std.proofs.Common.{◌≡◌, ℕ, false, List, Contains, Option, Some, None, is_some, sym, ap, subst}
use Rattle.ci_machine_steps.specs.Prelude.{GroupOrder, OldestFirst, NewestReadyFirst, Kept}
use Rattle.ci_memory_queue.specs.declared.lines.Line.{Line}
use Rattle.ci_memory_queue.specs.LineCovers.{jobs_in}
use Rattle.ci_memory_queue.specs.First.{IsInGroup, IsFoundAt, IsFirst}

-- a job of which nothing was found isn't in the group
pub not_found : (order : GroupOrder) (k : Kept) (project : ℕ) (group : List ℕ) (first job pipeline : ℕ) (found : Option ℕ) → is_some found ≡ false → IsFoundAt order k project group first found
    → IsInGroup order k project group job pipeline → job ≡ first → ⊥
not_found order k project group first job pipeline None none at is same = at pipeline (subst (λ n. IsInGroup order k project group n pipeline) same is)
not_found order k project group first job pipeline (Some p) none at is same = absurd (cc)

module _ (k : Kept) (order : GroupOrder) (line : Line) where
  -- a line of which jobs were taken out that aren't in the group, of those that count in the one order
  pub keeps_waiting : (new : Line) → order ≡ OldestFirst → new.ready.keys ≡ line.ready.keys
      → ((job pipeline : ℕ) → IsInGroup order k line.project line.group job pipeline → Contains line.waiting.keys job → Contains new.waiting.keys job)
      → (o : GroupOrder) (job pipeline : ℕ) → IsInGroup o k line.project line.group job pipeline → Contains (jobs_in o line) job → Contains (jobs_in o new) job
  keeps_waiting new is same keeps OldestFirst job pipeline at has = keeps job pipeline (subst (λ o. IsInGroup o k line.project line.group job pipeline) (sym is) at) has
  keeps_waiting new is same keeps NewestReadyFirst job pipeline at has = subst (λ (js : List ℕ). Contains js job) (sym same) has

  -- or in the other
  pub keeps_ready : (new : Line) → order ≡ NewestReadyFirst → new.waiting.keys ≡ line.waiting.keys
      → ((job pipeline : ℕ) → IsInGroup order k line.project line.group job pipeline → Contains line.ready.keys job → Contains new.ready.keys job)
      → (o : GroupOrder) (job pipeline : ℕ) → IsInGroup o k line.project line.group job pipeline → Contains (jobs_in o line) job → Contains (jobs_in o new) job
  keeps_ready new is same keeps OldestFirst job pipeline at has = subst (λ (js : List ℕ). Contains js job) (sym same) has
  keeps_ready new is same keeps NewestReadyFirst job pipeline at has = keeps job pipeline (subst (λ o. IsInGroup o k line.project line.group job pipeline) (sym is) at) has

  -- the first of those that count in the order is the first of the line's jobs that do
  pub first_by : (o : GroupOrder) (project : ℕ) (group : List ℕ) (found : Option ℕ) → order ≡ o → IsFirst order k project group (jobs_in o line) found → IsFirst order k project group (jobs_in order line) found
  first_by o project group found is first = subst (λ (js : List ℕ). IsFirst order k project group js found) (ap (λ x. jobs_in x line) (sym is)) first
