use Rattle.std.proofs.Common.{Ok, map, ◌≡◌, take}
use Rattle.ci_machine_plans.specs.Objects.{told_group}
use Rattle.ci_store.specs.Prelude.{LoadsBy}
use Rattle.ci_server_events.specs.Groups.{group_by}
use Rattle.ci_server_events.proofs.reads_groups.told.Given as goal

-- the groups with the names so far
abbrev pub invariant-loop-name : goal.invariant-loop-name
invariant-loop-name g l =
    LoadsBy {A = Unit {0}} g.T.Store.honest g.T.Store.holds g.T.Store.leaves l.fn.store l.store (Ok tt)
    (λ k _. map told_group l.groups.items ≡ map (group_by k.state l.project l.held l.modes) (take l.name-index l.names))
