-- A finished pipeline has no live attempt: once it is pruned, leases and resource groups stand as they did.
use Rattle.ci_machine_laws.proofs.Prelude.{◌≡◌, ℕ, false, not, nat_lt, List, [], ◌∷◌, map, flat_map, Option, Some, refl, ap, ◌∙◌, inl, inr, and_parts, not_true, Has}
use Rattle.ci_machine_laws.proofs.Prelude.{has_filter, has_find, filter_implied, pruned_state, attempt_left, not_its, job_stands, Sound, sound}
use Rattle.ci_machine_steps.specs.Prelude.{Lease, Pipeline, Job, Attempt, BoardRow, State, applied, jobs_of, AreBoard, is_live, is_open_in, held_of, holders, PruneOne, Seed}
use Rattle.ci_machine_steps.specs.Prelude.{Plan, is_job_among, is_prunable, prunable_in, prune, without_pipeline, Does, limit_or_none, lease_of, leases, live_attempts, jobs_in}
use Rattle.ci_machine_steps.specs.Prelude.{IsSound}
use Rattle.ci_machine_laws.proofs.Groups.{held_left}
use Rattle.ci_machine_steps.proofs.Behind.{flat_same}

-- ---- what a prune leaves

pub map_same : {A B : Type 0} (f g : A → B) (xs : List A) → ((x : A) → Has x xs → f x ≡ g x) → map f xs ≡ map g xs
map_same f g [] e = refl
map_same f g (x ∷ xs) e = λ i. e x (inl refl) i ∷ map_same f g xs (λ y k. e y (inr k)) i

module _ (s : State) (board : List BoardRow) (p : Pipeline) (known : Sound s) (are : AreBoard s board) (finished : is_open_in s board p ≡ false) where
  live_left : live_attempts (without_pipeline s p.id) ≡ live_attempts s
  live_left = filter_implied is_live (λ (a : Attempt). not (is_job_among (jobs_of s p.id) a.job)) s.attempts (λ a k live. ap not (not_its s board p known are finished a k live))

  pub leases_left : leases (without_pipeline s p.id) ≡ leases s
  leases_left =
      let t = without_pipeline s p.id in
      ap (map (lease_of t)) live_left
      ∙ map_same (lease_of t) (lease_of s) (live_attempts s) (λ a k.
      let w = has_filter is_live a s.attempts k in
      let lease : Option Job → Lease = λ o. record { attempt = a; limit = limit_or_none o } in
      ap lease (job_stands s board p known are finished a.job (not_its s board p known are finished a w.0 w.1)))

  pub holders_left : holders (without_pipeline s p.id) ≡ holders s
  holders_left =
      let t = without_pipeline s p.id in
      ap (flat_map (held_of t)) live_left
      ∙ flat_same (held_of t) (held_of s) (live_attempts s) (λ a k.
      let w = has_filter is_live a s.attempts k in
      held_left s p.id known.attempt_job known.jobs known.attempts a (attempt_left s p.id known.jobs known.attempts a w.0 (not_its s board p known are finished a w.0 w.1)))

-- ---- a request to prune

-- the plan where this pipeline is the one that is pruned
pub its_plan : (s : State) (board : List BoardRow) (before now : ℕ) (seed : Seed) (plan : Plan) (p : Pipeline) → Does s board (PruneOne before) now seed plan → prunable_in s board before ≡ Some p
    → plan ≡ prune (Some p) (jobs_of s p.id) s.attempts
its_plan s board before now seed plan p is found = is ∙ ap (λ (o : Option Pipeline). prune o (jobs_in s o) s.attempts) found

pub then_left : (s : State) (board : List BoardRow) (before now : ℕ) (seed : Seed) (plan : Plan) (p : Pipeline) → IsSound s → Does s board (PruneOne before) now seed plan → prunable_in s board before ≡ Some p
    → applied plan.1 s ≡ without_pipeline s p.id
then_left s board before now seed plan p i is found =
    let known = sound s i in
    ap (λ (f : Plan). applied f.1 s) (its_plan s board before now seed plan p is found) ∙ pruned_state s p.id known.jobs known.attempts p refl

pub is_finished : (s : State) (board : List BoardRow) (before : ℕ) (p : Pipeline) → prunable_in s board before ≡ Some p → is_open_in s board p ≡ false
is_finished s board before p found =
    let first = has_find (is_prunable s board before) p s.pipelines found in
    not_true (is_open_in s board p) (and_parts (nat_lt p.created before) (not (is_open_in s board p)) first.1).1
