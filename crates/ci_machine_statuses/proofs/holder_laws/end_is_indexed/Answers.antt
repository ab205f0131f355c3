use Rattle.std.proofs.Common.{subst}
use Rattle.ci_machine.proofs.Keyed.{Has, has_from_contains}
use Rattle.ci_machine_steps.proofs.Sound.{sound}
use Rattle.ci_machine_statuses.proofs.Facts.{in_pipeline}
use Rattle.ci_machine_statuses.proofs.HeldEnds.{end_indexed}
use Rattle.ci_machine_statuses.proofs.holder_laws.end_is_indexed.Goals as goal

pub returns : goal.returns
returns c = λ k p job jobs needs attempts rows ended settled before after is_sound are indexes has records chosen its_job live over is_settled was is.
    let there = in_pipeline k.state p.id job (subst (λ js. Has job js) records.are_jobs (has_from_contains job jobs chosen)) in
    end_indexed k p job ended (sound k.state is_sound) are (has_from_contains p k.state.pipelines has) there.0 there.1 its_job live over
    jobs needs attempts rows settled before after indexes records is_settled was is
