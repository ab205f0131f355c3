use Rattle.std.proofs.Common.{◌≡◌, take, Ok}
use Rattle.ci_store.specs.Prelude.{LoadsBy}
use Rattle.ci_server_lookups.proofs.Holds.{gathered_in}
use Rattle.ci_server_lookups.proofs.holders.holders_of.Given as goal

-- the holders of the groups of the jobs so far
abbrev pub invariant-loop-job : goal.invariant-loop-job
invariant-loop-job g l =
    LoadsBy {A = Unit {0}} g.T.Store.honest g.T.Store.holds g.T.Store.leaves l.fn.store l.store (Ok tt)
    (λ k _. l.found.items ≡ gathered_in l.project k.holders (take l.job-index l.jobs))
