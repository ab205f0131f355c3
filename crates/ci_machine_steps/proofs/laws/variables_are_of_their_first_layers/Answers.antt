use Rattle.ci_graph_layout.proofs.FirstLayers.{layers_mean}
use Rattle.ci_machine_steps.proofs.Layers.{merged_ascend, merged_mean}
use Rattle.ci_machine_steps.proofs.laws.variables_are_of_their_first_layers.Goals as goal

pub returns-clause-ascend : goal.returns-clause-ascend
returns-clause-ascend c = merged_ascend

pub returns-clause-values : goal.returns-clause-values
returns-clause-values c = merged_mean

pub returns-clause-layers : goal.returns-clause-layers
returns-clause-layers c = layers_mean
