use Rattle.std.specs.Prelude.{◌≡◌, take, Ok}
use Rattle.ci_machine_steps.specs.Prelude.{groups_in}
use Rattle.ci_store.specs.Prelude.{LoadsBy}
use Rattle.ci_server_lookups.specs.Prelude.{IsKept}
use Rattle.ci_server_lookups.proofs.Claiming.{ahead_in}
use Rattle.ci_server_lookups.proofs.claims.ahead_of.Given as goal

-- the claims on the groups of the jobs so far
abbrev pub invariant-loop-job : goal.invariant-loop-job
invariant-loop-job g l =
    LoadsBy {A = Unit {0}} g.T.Store.honest g.T.Store.holds g.T.Store.leaves l.fn.store l.store (Ok tt)
    (λ k _. IsKept k → l.ahead.items ≡ ahead_in (groups_in k.state k.board) l.project l.pipeline (take l.job-index l.jobs))
