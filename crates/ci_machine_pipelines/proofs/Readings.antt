-- What is answered of a text fits it.
use Rattle.std.proofs.Common.{◌≡◌, ℕ, List, Result, Ok, Err, sym, subst}
use Rattle.ci_config.specs.Prelude.{Value, Gives}
use Rattle.ci_yaml.specs.Prelude.{HasTree, RefusedBy}
use Rattle.ci_yaml.specs.declared.fault.YamlFault.{YamlFault}
use Rattle.ci_graph_layout.specs.Prelude.{Patterns, code_view, meaning, config_view, ConfigFault}
use Rattle.ci_machine_steps.specs.Prelude.{IsRead, configures, misconfigures, lacks_tree}
use Rattle.ci_machine_pipelines.specs.declared.files.FileFault.{FileFault}
use Rattle.ci_machine_pipelines.specs.declared.files.FileFault.TheVariants.{Memory, Fault}
use Rattle.ci_machine_pipelines.specs.Readings.{yaml_fault, Shows, Counts, CountsTree}

pub of_tree : (text : List ℕ) (tree : Value) (r : Result ℕ FileFault) → HasTree text tree → CountsTree tree r → Counts text r
of_tree text tree (Ok n) has c = (c.0, configures tree c.0 has c.1, c.2)
of_tree text tree (Err Memory) has c = tt
of_tree text tree (Err (Fault detail)) has c = subst (λ d. IsRead text (Err d)) (sym c.2) (misconfigures tree c.0 has c.1)

pub of_fault : (text : List ℕ) (fault : YamlFault) (f : FileFault) → f ≡ yaml_fault fault → RefusedBy text fault → Counts text (Err f)
of_fault text YamlFault.Memory f is by = subst (λ g. Counts text (Err g)) (sym is) tt
of_fault text (YamlFault.Fault code line) f is by = subst (λ g. Counts text (Err g)) (sym is) (lacks_tree line code by)

pub of_keywords : (tree : Value) (fault : ConfigFault) (f : FileFault) → ((builds : Patterns) × Gives config_view (Err fault) (meaning builds tree)) → Shows f fault → CountsTree tree (Err f)
of_keywords tree fault Memory answer shows = tt
of_keywords tree ConfigFault.Memory (Fault detail) answer shows = absurd shows
of_keywords tree (ConfigFault.Fault code) (Fault detail) answer shows = (code_view code, answer, shows)
