use Rattle.std.proofs.Common.{◌≡◌, ℕ, Result, Ok, subst, sym, ap}
use Rattle.ci_machine_steps.specs.Prelude.{Job, Code, shown, status_for, claims_in, job_at, pipeline_or_none}
use Rattle.ci_server_events.specs.Planning.{PlansFor}
use Rattle.ci_server_events.proofs.Acting.{found_at}
use Rattle.ci_server_events.proofs.Asking.{lent, job_asked}
use Rattle.ci_server_lookups.proofs.Loading.{continues}
use Rattle.ci_server_events.proofs.shows.show_job.Goals as goal

-- the job is the one that the query names
pub returns-in-Ok : goal.returns-in-Ok
returns-in-Ok g c =
    let query = c.args.query.now in
    let job = c.in-Ok.job.now in
    continues c.in_ok-named.was c.load_named.ensures c.found_shown.ensures
    (λ k y is named planned kept.
    let found = job_asked k.state query named (lent c.asked.ensures c.in-Ok.is) in
    let status = status_for k.board query.job in
    subst (λ (r : Result Job Code). PlansFor k ((y.answer, y.changes) ≡ shown (claims_in k.state k.board (pipeline_or_none (job_at k.state query.job))) query.project r status) y) (sym found)
    (subst (λ (n : ℕ). PlansFor k ((y.answer, y.changes) ≡ shown (claims_in k.state k.board n) query.project (Ok job) status) y) (sym (ap pipeline_or_none (found_at k.state query job found))) (planned kept)))
