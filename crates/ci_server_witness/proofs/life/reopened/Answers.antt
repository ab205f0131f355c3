use Rattle.std.proofs.Common.{subst, sym, inl}
use Rattle.sqlite.specs.Steps.{over_memory}
use Rattle.sqlite.proofs.Callers.{memory_is_clean}
use Rattle.ci_store_sqlite.specs.Prelude.{LeavesAny}
use Rattle.ci_server.specs.Prelude.{Opens}
use Rattle.ci_server_witness.proofs.LifeLemmas.{reopened_at}
use Rattle.ci_server_witness.proofs.life.reopened.Goals as goal

pub returns-in-Ok-clause-reopened : goal.returns-in-Ok-clause-reopened
returns-in-Ok-clause-reopened c ops s was =
    reopened_at ops s c.args.server c.in-Ok.server was (subst (λ conn. Opens over_memory conn c.in-Ok.server) c.close.ensures.same c.in-Ok.ensures.opened)

pub returns-clause-stopped : goal.returns-clause-stopped
returns-clause-stopped c ops s was =
    let kept = was.holds.kept in
    c.in-Err.ensures.own (memory_is_clean c.in-Err.field-0-1) kept (subst (LeavesAny over_memory kept) (sym c.close.ensures.same) (λ db may. inl (was.holds.held.0 db may)))
