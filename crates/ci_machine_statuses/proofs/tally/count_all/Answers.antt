use Rattle.std.proofs.Common.{sym, ap, subst, ◌+◌, ◌≤◌, ◌∙◌, length, arith}
use Rattle.std.proofs.lemmas.List.{length-set}
use Rattle.ci_machine_statuses.specs.Lookups.{tally_at}
use Rattle.ci_machine_statuses.proofs.Tallies.{count_step, skip_step, few_more}
use Rattle.ci_machine_statuses.proofs.tally.count_all.Goals as goal
use Rattle.ci_machine_statuses.proofs.tally.count_all.Goals.{in-Some, in_default}

pub loop-attempt-preserved : goal.loop-attempt-preserved
loop-attempt-preserved c =
    elim c.match-place_of.branch [
      | in-Some w ↦ record {
        long = ap length (w.tallies-is ∙ w.count.ensures) ∙ (length-set c.loop-attempt.tallies w.in-Some.place _ ∙ c.loop-attempt.invariant.long);
        few = λ place. subst (λ ts. (tally_at ts place).count ≤ c.loop-attempt.attempt-index + 1) (sym (w.tallies-is ∙ w.count.ensures))
            (few_more c.loop-attempt.tallies w.in-Some.place c.loop-attempt.attempt-index _ c.loop-attempt.invariant.few (let z = c.loop-attempt.invariant.few w.in-Some.place in omega (arith, z)) place);
        are = λ up start. w.tallies-is
            ∙ count_step c.args.numbers.now c.args.attempts.now c.loop-attempt.attempt-index c.attempt-item.result w.in-Some.place c.loop-attempt.tallies _ (omega arith) c.attempt-item.is up
            (sym (c.place_of.ensures.place up) ∙ w.in-Some.is) (c.loop-attempt.invariant.are up start) w.count.ensures;
      }
      | in_default w ↦ record {
        long = ap length w.tallies-is ∙ c.loop-attempt.invariant.long;
        few = λ place. let z = subst (λ ts. (tally_at ts place).count ≤ c.loop-attempt.attempt-index) (sym w.tallies-is) (c.loop-attempt.invariant.few place) in omega (arith, z);
        are = λ up start. w.tallies-is
            ∙ skip_step c.args.numbers.now c.args.attempts.now c.loop-attempt.attempt-index c.attempt-item.result c.loop-attempt.tallies (omega arith) c.attempt-item.is
            (sym (c.place_of.ensures.place up) ∙ w.in_default.is) (c.loop-attempt.invariant.are up start);
      }
    ]
