use Rattle.std.proofs.Common.{ap, ◌∙◌}
use Rattle.ci_machine_steps.specs.Prelude.{Plan}
use Rattle.ci_server_events.proofs.Leaving.{reads_change_nothing}
use Rattle.ci_server_events.proofs.reads.read_of.Goals as goal

pub unchanged-requires : goal.unchanged-requires
unchanged-requires g c = ap (λ (p : Plan). p.1) c.told.ensures ∙ reads_change_nothing _
