use Rattle.std.proofs.Common.{sym, ap, ◌∙◌}
use Rattle.ci_server_lookups.proofs.Holds.{still_with, still_without}
use Rattle.ci_server_lookups.proofs.holders.still_held.Goals as goal
use Rattle.ci_server_lookups.proofs.holders.still_held.Goals.{then-not-is_freed+in_ok-clone+in_ok-push, else-not-is_freed}

-- a holder that isn't freed is copied, and another is left out
pub loop-holder-preserved : goal.loop-holder-preserved
loop-holder-preserved c =
    let h = c.holder-item.result in
    let still = c.loop-holder.still.items in
    elim c.if-not-is_freed.branch [
      | then-not-is_freed+in_ok-clone+in_ok-push w ↦
          let copied = w.in_ok-clone.ensures.cases in
          ap (λ v. v.items) w.still-is
          ∙ still_with c.args.changes.now c.args.held.now c.loop-holder.holder-index h c.loop-holder-test.true c.holder-item.is still _ w.in_ok-clone.field-0 (sym c.is_freed.ensures ∙ w.if-not-is_freed.true)
          (λ i. record { project = copied.0 i; group = copied.1.0 i; attempt = copied.1.1 i }) c.loop-holder.invariant w.in_ok-push.ensures.items
      | else-not-is_freed w ↦
          ap (λ v. v.items) w.still-is
          ∙ still_without c.args.changes.now c.args.held.now c.loop-holder.holder-index h c.loop-holder-test.true c.holder-item.is still (sym c.is_freed.ensures ∙ w.if-not-is_freed.false) c.loop-holder.invariant
    ]
