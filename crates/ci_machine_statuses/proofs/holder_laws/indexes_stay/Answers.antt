use Rattle.std.proofs.Common.{map, filter, sym, ap, ◌∙◌}
use Rattle.ci_machine_steps.specs.Prelude.{is_live_state, applied, queued_at, held_by}
use Rattle.ci_machine_steps.proofs.Sound.{sound}
use Rattle.ci_machine_statuses.proofs.Joint.{unmoved_by}
use Rattle.ci_machine_statuses.proofs.Stays.{like, same_from_like}
use Rattle.ci_machine_statuses.proofs.Holding.{rows_stay}
use Rattle.ci_machine_statuses.proofs.HeldOpening.{as_row, same_open}
use Rattle.ci_machine_statuses.proofs.holder_laws.indexes_stay.Goals as goal

pub returns : goal.returns
returns c = λ k changes is_sound are indexes leave.
    let s = k.state in
    let t = applied changes s in
    let its = sound s is_sound in
    let l = like s changes its leave in
    let same = same_from_like s t l.jobs l.needs l.facts in
    record {
      held = rows_stay s t k.holders its.attempts
          (λ a h live. let w = l.attempts a h in record { attempt = w.0; has = w.1; id = w.2; job = w.3; live = ap is_live_state w.4 ∙ live })
          (λ b h live. let w = l.before b h in record { attempt = w.0; has = w.1; id = w.2; job = w.3; live = ap is_live_state w.4 ∙ live })
          (λ a h live i. held_by a.id (queued_at (record s { jobs = l.jobs i; pipelines = l.pipelines i }) a.job)) indexes.held;
      unfinished = indexes.unfinished ∙ (λ i. map as_row (filter (λ q. sym (same_open s t k.board k.board q (unmoved_by s t k.board same q.id)) i) (sym l.pipelines i)));
    }
