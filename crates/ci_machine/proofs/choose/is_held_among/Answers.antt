use Rattle.std.proofs.Common.{Some, ◌∙◌}
use Rattle.ci_machine.specs.Prelude.{holds, held_by}
use Rattle.ci_machine.proofs.Tests.{any_joined}
use Rattle.ci_machine.proofs.choose.is_held_among.Goals as goal

pub returns : goal.returns
returns c = c.has_one.ensures ∙ any_joined (holds c.args.project c.args.group.now) (λ a. held_by a.attempt.id (Some a.queued)) c.args.live.now
