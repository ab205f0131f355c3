use Rattle.std.proofs.Common.{◌≡◌, ◌∙◌, length, ap, subst, true, false, ◌==◌}
use Rattle.ci_config.specs.Prelude.{value_view}
use Rattle.ci_explain.specs.Told.{IsFirst, fault_view, without}
use Rattle.ci_explain.proofs.Turns.{is-empty, goes-on, ends-with, ends-well}
use Rattle.ci_explain.proofs.turn.in_turn.Goals as goal

pub returns-in_default : goal.returns-in_default
returns-in_default c =
    ends-well (value_view c.args.tree) (value_view c.loop.tree) c.loop.told.items c.loop.invariant
    (subst (IsFirst (value_view c.loop.tree)) c.in_default.is c.in_ok-fault.ensures)

pub returns-then-is_empty : goal.returns-then-is_empty
returns-then-is_empty c =
    ends-with (value_view c.args.tree) (value_view c.loop.tree) c.loop.told.items c.push.new.self.items c.in_ok-next.next (fault_view c.in-Some.fault) c.loop.invariant c.in_ok-push.ensures.items
    (subst (IsFirst (value_view c.loop.tree)) c.in-Some.is c.in_ok-fault.ensures) c.in_ok-next.ensures
    (is-empty c.in_ok-next.next.way.items (subst (λ xs. true ≡ (length xs == 0)) c.as_slice-in-loop.ensures.value c.if-is_empty.ensures))

pub loop-preserved : goal.loop-preserved
loop-preserved c =
    goes-on (value_view c.args.tree) (value_view c.loop.tree) (value_view c.in_ok-tree.tree) c.loop.told.items c.push-in-loop.new.self.items c.in_ok-next.next (fault_view c.in-Some.fault)
    c.loop.invariant c.in_ok-push-2.ensures.items
    (subst (IsFirst (value_view c.loop.tree)) c.in-Some.is c.in_ok-fault.ensures) c.in_ok-next.ensures
    (subst (λ xs. false ≡ (length xs == 0)) c.as_slice-in-loop.ensures.value c.if-is_empty.ensures)
    (c.in_ok-tree.ensures ∙ ap (λ xs. without xs (value_view c.loop.tree)) c.as_slice-in-loop-2.ensures.value)
