use Rattle.std.proofs.Common.{ℕ, List, subst, sym, ◌∙◌}
use Rattle.std.specs.List.{AllByRecursion}
use Rattle.ci_machine_steps.specs.Prelude.{cleared}
use Rattle.ci_server_lookups.specs.Prelude.{LeavesStatuses}
use Rattle.ci_server_events.specs.Planning.{Settles}
use Rattle.ci_server_events.proofs.Leaving.{alone_settles}
use Rattle.ci_server_events.proofs.planned.Planned.of_records.Goals as goal

pub returns-clause-settled : goal.returns-clause-settled
returns-clause-settled g c = λ k kept.
    let p = c.clearing.result in
    let made = c.clearing.ensures in
    subst (λ (jobs : List ℕ). Settles (cleared jobs k) p.changes p.beside) (sym (made.cleared ∙ c.new.ensures.items))
    (alone_settles c.rows_stay.ensures c.indexes_stay.ensures k kept p.changes p.beside made.rows made.indexes (subst (AllByRecursion (LeavesStatuses k.state)) (sym made.changes) (c.requires k.state)))
