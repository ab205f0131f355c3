use Rattle.std.proofs.Common.{sym, subst, ◌∙◌, arith, nat_cmp}
use Rattle.std.specs.List.Sorted.{IsStrictlySortedBy}
use Rattle.ci_machine_statuses.proofs.Found.{row_pushed, longer}
use Rattle.ci_machine_statuses.proofs.load.rows_of.Goals as goal

pub loop-n-preserved : goal.loop-n-preserved
loop-n-preserved c =
    record {
      jobs = c.loop-n.invariant.jobs;
      long = longer _ _ _ _ c.in_ok-push.ensures.items c.loop-n.invariant.long;
      are = λ up.
          row_pushed c.args.rows.now c.as_slice.result.now c.args.numbers.now c.loop-n.n-index c.in-Some.place _ c.loop-n.found.items c.push.new.self.items (omega arith) up
          (c.as_slice.ensures.value ∙ c.loop-n.invariant.jobs)
          (sym (c.place_of.ensures.place (subst (IsStrictlySortedBy nat_cmp) (sym (c.as_slice.ensures.value ∙ c.loop-n.invariant.jobs)) up)) ∙ c.in-Some.is)
          (c.loop-n.invariant.are up) c.in_ok-push.ensures.items;
    }
