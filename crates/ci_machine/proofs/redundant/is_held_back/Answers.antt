use Rattle.std.proofs.Common.{◌∙◌}
use Rattle.ci_machine.specs.Prelude.{is_bound_to}
use Rattle.ci_machine.proofs.Tests.{any_mapped}
use Rattle.ci_machine.proofs.redundant.is_held_back.Goals as goal

pub returns : goal.returns
returns c = c.has_bound.ensures ∙ any_mapped (is_bound_to c.args.pipeline.now) (λ a. a.queued.job) c.args.attempts.now
