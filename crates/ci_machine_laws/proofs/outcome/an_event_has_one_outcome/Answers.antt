use Rattle.ci_machine_laws.proofs.OneOutcome.{one_outcome}
use Rattle.ci_machine_laws.proofs.outcome.an_event_has_one_outcome.Goals as goal

pub returns : goal.returns
returns c =
    one_outcome
    (record { one_tree = c.has_one_tree.ensures; one_fault = c.has_one_fault.ensures; not_both = c.has_not_both.ensures; alike = c.reads_alike.ensures })
    c.one_assignment.ensures
