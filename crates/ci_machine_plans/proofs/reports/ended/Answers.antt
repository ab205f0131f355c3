use Rattle.std.proofs.Common.{◌≡◌, List, Result, Ok, Err, ap, ◌∙◌}
use Rattle.std.specs.Result.{result_map_both}
use Rattle.ci_machine_steps.specs.Prelude.{AttemptState, Attempt, LeaseFault, RowChange, Reply, status_of_state, finished, after_final}
use Rattle.ci_machine_steps.specs.Reports as reports
use Rattle.ci_machine_plans.proofs.reports.ended.Goals as goal

same_attempt : (a b : Attempt) → (a.id ≡ b.id) × ((a.job ≡ b.job) × ((a.runner ≡ b.runner) × ((a.token ≡ b.token) × ((a.granted ≡ b.granted)
    × ((a.seen ≡ b.seen) × (a.state ≡ b.state)))))) → a ≡ b
same_attempt a b h = λ i. record {
  id = h.0 i;
  job = h.1.0 i;
  runner = h.1.1.0 i;
  token = h.1.1.1.0 i;
  granted = h.1.1.1.1.0 i;
  seen = h.1.1.1.1.1.0 i;
  state = h.1.1.1.1.1.1 i;
}

-- a final state that was accepted is told, and put in the attempt's place
told_so : (a after : Attempt) (r : Result AttemptState LeaseFault) (reply : Reply) (changes : List RowChange)
    → Ok after ≡ result_map_both (λ state. record a { state = state }) (λ fault. fault) r
    → reply ≡ reports.told (status_of_state after.state)
    → ((state : AttemptState) → after ≡ record a { state = state } → changes ≡ reports.ending a state)
    → (reply, changes) ≡ reports.ended a r
told_so a after (Ok state) reply changes e told put =
    let same : after ≡ record a { state = state } = cc in
    let told_it = told ∙ ap (λ (x : Attempt). reports.told (status_of_state x.state)) same in
    let put_it = put state same in
    λ i. (told_it i, put_it i)
told_so a after (Err fault) reply changes e told put = absurd (cc)

pub returns-in_ok-changes-in-Ok : goal.returns-in_ok-changes-in-Ok
returns-in_ok-changes-in-Ok c =
    told_so c.args.attempt.now c.in-Ok.after (finished c.args.attempt.now c.args.limit c.args.now c.args.last) c.told-reply.result c.in_ok-changes-in-Ok.changes
    (c.in-Ok.ensures ∙ ap (λ (x : Attempt). after_final x c.args.limit c.args.now c.args.last) (same_attempt c.in_ok-clone.field-0 c.args.attempt.now c.in_ok-clone.ensures.cases))
    (c.told-reply.ensures ∙ ap reports.told c.of.ensures)
    c.in_ok-changes-in-Ok.ensures
