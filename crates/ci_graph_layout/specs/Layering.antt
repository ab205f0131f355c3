-- The layers of a job's variables, as a look-up takes them.
use Rattle.std.specs.Prelude.{List, [], ◌∷◌, ◌++◌}
use Rattle.ci_config.specs.Prelude.{Variables, Job, Config}
use Rattle.ci_graph_layout.specs.Inclusion.{Given, own_names}

-- the pipeline's, the project's, these of the job, the file's, and the predefined, which its name and stage belong to
abbrev pub layers_of : Given → Config → Job → Variables → List Variables
layers_of g c j own = g.pipeline ∷ g.project ∷ own ∷ c.variables ∷ (own_names j ++ g.predefined) ∷ []
