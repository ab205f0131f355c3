use Rattle.std.proofs.Common.{◌∙◌}
use Rattle.ci_machine_statuses.proofs.Loaded.{graph_given, fault_told}
use Rattle.ci_machine_statuses.proofs.load.load_graph.Goals as goal

pub returns-clause-graph : goal.returns-clause-graph
returns-clause-graph g c =
    graph_given c.as_slice.result.now c.args.jobs.now c.args.needs.now c.graph_of.result (c.as_slice.ensures.value ∙ c.in_ok-numbers.ensures) c.graph_of.ensures.parts c.graph_of.ensures.predecessors c.graph_of.ensures.fits

pub returns-clause-fault : goal.returns-clause-fault
returns-clause-fault g c = fault_told c.as_slice.result.now c.args.jobs.now c.args.needs.now c.graph_of.result (c.as_slice.ensures.value ∙ c.in_ok-numbers.ensures) c.graph_of.ensures.fault
