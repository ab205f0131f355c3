use Rattle.std.proofs.Common.{◌≡◌, take, ℕ, Ok}
use Rattle.ci_machine_steps.specs.Prelude.{jobs_of}
use Rattle.ci_store.specs.Prelude.{LoadsBy}
use Rattle.ci_server_lookups.specs.Prelude.{IsKept}
use Rattle.ci_memory_queue.proofs.Ones.{NoneAhead}
use Rattle.ci_memory_queue.proofs.heads.first_among.Given as goal

-- none of the jobs so far is ahead
abbrev pub invariant-loop-job : goal.invariant-loop-job
invariant-loop-job g l =
    LoadsBy {A = Unit {0}} g.T.Store.honest g.T.Store.holds g.T.Store.leaves l.fn.store l.store (Ok tt)
    (λ k _. IsKept k → (pipeline : ℕ) → l.jobs ≡ jobs_of k.state pipeline → NoneAhead k l.asks l.before (take l.job-index l.jobs))
