use Rattle.std.proofs.Common.{sym, ap, ◌∙◌}
use Rattle.ci_machine_plans.proofs.Going.{goes_too, stays_here}
use Rattle.ci_machine_plans.proofs.prunes.without_attempts.Goals as goal
use Rattle.ci_machine_plans.proofs.prunes.without_attempts.Goals.{then-has_number+in_ok-push+in_ok-push-2, else-has_number}

-- an attempt of one of the jobs goes with its trace, and another stays
pub loop-attempt-preserved : goal.loop-attempt-preserved
loop-attempt-preserved c =
    let before = c.loop-attempt.changes.items in
    elim c.if-has_number.branch [
      | then-has_number+in_ok-push+in_ok-push-2 w ↦
          ap (λ v. v.items) w.changes-is
          ∙ goes_too c.args.jobs.now c.args.attempts.now c.loop-attempt.attempt-index c.attempt-item.result c.loop-attempt-test.true c.attempt-item.is before _ _
          (sym c.has_number.ensures ∙ w.if-has_number.true) c.loop-attempt.invariant w.in_ok-push.ensures.items w.in_ok-push-2.ensures.items
      | else-has_number w ↦
          ap (λ v. v.items) w.changes-is
          ∙ stays_here c.args.jobs.now c.args.attempts.now c.loop-attempt.attempt-index c.attempt-item.result c.loop-attempt-test.true c.attempt-item.is before
          (sym c.has_number.ensures ∙ w.if-has_number.false) c.loop-attempt.invariant
    ]
