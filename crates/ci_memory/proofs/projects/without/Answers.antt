use Rattle.std.proofs.Common.{not, rules}
use Rattle.std.proofs.lemmas.Fn.{filter_same}
use Rattle.ci_machine_steps.specs.Prelude.{Project}
use Rattle.ci_memory.specs.Projects.{is_of_project}
use Rattle.ci_memory.proofs.projects.without.Goals as goal

pub returns : goal.returns
returns c = filter_same _ (λ (x : Project). not (is_of_project x c.args.change.now)) _ (λ x b f k. search rules) _ _ c.retain.ensures.filtered
