-- Of which other jobs the jobs of a pipeline wait: no job goes before those of its own pipeline.
use Rattle.std.proofs.Common.{◌≡◌, ℕ, Bool, false, ◌&&◌, List, [], ◌∷◌, ◌++◌, filter, flat_map, Option, Some, None, refl, sym, ap, ◌∙◌, inl, inr, arith}
use Rattle.std.proofs.lemmas.Bool.{cond-false, le-ltb}
use Rattle.std.proofs.lemmas.List.Elements.{filter-append}
use Rattle.ci_machine_steps.specs.Prelude.{Status, GroupMode, GroupOrder, OldestFirst, NewestReadyFirst, Job, QueuedJob, WaitingJob, order_of, goes_before_in, is_first, waits_for}
use Rattle.ci_machine_steps.specs.Prelude.{waits_as}
use Rattle.ci_machine.proofs.Keyed.{Has}

own_in : (o : Option GroupOrder) (n : ℕ) (w : WaitingJob) → w.pipeline ≡ n → goes_before_in o n w ≡ false
own_in None n w e = refl
own_in (Some OldestFirst) n w e = le-ltb w.pipeline n (omega arith)
own_in (Some NewestReadyFirst) n w e = ap (λ b. b && w.pending) (le-ltb n w.pipeline (omega arith))

own_for : (modes : List GroupMode) (n project pipeline : ℕ) (pending : Bool) (group : Option (List ℕ)) → pipeline ≡ n → filter (is_first modes n) (waits_for project pipeline pending group) ≡ []
own_for modes n project pipeline pending None e = refl
own_for modes n project pipeline pending (Some group) e =
    let w : WaitingJob = record { project = project; group = group; pipeline = pipeline; pending = pending } in
    cond-false (is_first modes n w) (w ∷ []) [] (own_in (order_of modes project group) n w e)

-- a job of the pipeline itself goes before none of it
pub own_first : (modes : List GroupMode) (n : ℕ) (q : QueuedJob) (its : Status) → q.job.pipeline ≡ n → filter (is_first modes n) (waits_as q its) ≡ []
own_first modes n q Status.Created e = own_for modes n q.project q.job.pipeline false q.job.options.resource_group e
own_first modes n q Status.Pending e = own_for modes n q.project q.job.pipeline _ q.job.options.resource_group e
own_first modes n q _ e = refl

-- the same ones pass, where the same of each job do
pub passing_alike : (test : WaitingJob → Bool) (f g : Job → List WaitingJob) (js : List Job) → ((j : Job) → Has j js → filter test (g j) ≡ filter test (f j)) → filter test (flat_map g js) ≡ filter test (flat_map f js)
passing_alike test f g [] h = refl
passing_alike test f g (j ∷ js) h =
    filter-append test (g j) (flat_map g js)
    ∙ ((λ i. h j (inl refl) i ++ passing_alike test f g js (λ k m. h k (inr m)) i)
    ∙ sym (filter-append test (f j) (flat_map f js)))

-- none pass, where none of any job does
pub none_passing : (test : WaitingJob → Bool) (g : Job → List WaitingJob) (js : List Job) → ((j : Job) → Has j js → filter test (g j) ≡ []) → filter test (flat_map g js) ≡ []
none_passing test g [] h = refl
none_passing test g (j ∷ js) h = filter-append test (g j) (flat_map g js) ∙ (λ i. h j (inl refl) i ++ none_passing test g js (λ k m. h k (inr m)) i)
