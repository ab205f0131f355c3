use Rattle.std.specs.List.{AllByRecursion}
use Rattle.std.proofs.Common.{subst, sym}
use Rattle.ci_server_lookups.specs.Prelude.{LeavesStatuses}
use Rattle.ci_server_events.proofs.planned.Planned.unchanged.Goals as goal

pub of_records-requires : goal.of_records-requires
of_records-requires g c = λ s. subst (AllByRecursion (LeavesStatuses s)) (sym c.requires) tt
