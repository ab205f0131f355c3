use Rattle.std.proofs.Common.{◌∙◌}
use Rattle.ci_graph_layout.specs.Prelude.{seen}
use Rattle.ci_graph_layout.proofs.FirstLayers.{layers_mean}
use Rattle.ci_graph_layout.proofs.layering.sees_the_first_layer.Goals as goal

pub returns-clause-rules : goal.returns-clause-rules
returns-clause-rules c = λ given config job name. c.looks_up_alike.ensures.one (seen given config job) name ∙ layers_mean given config job job.variables name

pub returns-clause-jobs : goal.returns-clause-jobs
returns-clause-jobs c = layers_mean
