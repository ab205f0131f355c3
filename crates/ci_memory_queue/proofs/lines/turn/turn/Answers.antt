use Rattle.std.proofs.Common.{Ok, refl}
use Rattle.ci_machine_steps.specs.Prelude.{waiting}
use Rattle.ci_server_lookups.specs.Prelude.{IsKept, IsTurn}
use Rattle.ci_server_lookups.proofs.Loading.{says, so, loads_both}
use Rattle.ci_memory_queue.specs.declared.lines.Lines.{Lines}
use Rattle.ci_memory_queue.specs.LineCovers.{Covers, IsRight}
use Rattle.ci_memory_queue.proofs.Covered.{still_covers, tells_turn}
use Rattle.ci_memory_queue.proofs.Sorts.{sorted_then}
use Rattle.ci_memory_queue.proofs.lines.turn.turn.Goals as goal

-- the first of the group tells whose turn it is, and what is known then is remembered
pub returns : goal.returns
returns g c =
    let lines = c.first_among.new.lines.items in
    let notes = c.in_ok-notes.notes in
    let all = so g.T.Store.honest g.T.Store.holds g.T.Store.leaves
    (λ k turn. IsRight c.args.lines.now k → Covers lines notes k.state k.board × (IsKept k → IsTurn c.args.order (waiting k.state k.board) c.args.project c.args.group.now turn)) _ _ _ (Ok tt) tt c.first_among.result c.in_ok-turn.turn c.in_ok-turn.turn refl c.in_ok-turn.was
    (sorted_then g.T.Store.honest g.T.Store.holds g.T.Store.leaves (λ k (q : Lines). Covers q.lines.items q.notes k.state k.board) _ _ c.args.lines.now c.take.result _ _ _ c.known_or_filled.result _ c.sort_fresh.result notes
    c.take.ensures.value c.in_ok-known.was c.in_ok-notes.was c.known_or_filled.ensures (λ k covers. covers) c.sort_fresh.ensures)
    (loads_both g.T.Store.honest g.T.Store.holds g.T.Store.leaves _ _ c.first_among.result c.first_among.ensures.keeps c.first_among.ensures.first)
    (λ k sorted its right.
    let is = sorted right in
    let all = c.sort_fresh.new.sorted.items in
    (still_covers k all lines notes is.0 is.1 its.0, λ kept. tells_turn k all lines notes is.0 is.1 its.0 kept c.args.order c.args.project c.args.group.now c.in_ok-turn.turn its.1)) in
    record {
      turn = says g.T.Store.honest g.T.Store.holds g.T.Store.leaves _ _ _ _ all (λ k turn is both right. (both right).1);
      right = λ h k held right. (all.answered h k held right).0;
    }
