use Rattle.std.proofs.Common.{ℕ, List, sym, subst, subst₂}
use Rattle.ci_machine_steps.specs.Prelude.{RowChange, IndexChange, BoardRow, State, applied, Kept, put_rows, cleared, written}
use Rattle.ci_memory_boards.specs.Sheets as boards
use Rattle.ci_memory_boards.proofs.Stays.{written_in_order}
use Rattle.ci_memory.specs.Quiet.{AreRight}
use Rattle.ci_memory_queue.specs.LineCovers as lines
use Rattle.ci_memory.specs.Alone as alone
use Rattle.ci_memory_queue.specs.Covers as queue
use Rattle.ci_memory.specs.Modes.{AreModes}
use Rattle.ci_memory.specs.Newest.{AreNewest}
use Rattle.ci_memory.specs.Numbers.{AreNext}
use Rattle.ci_memory.specs.Projects.{AreProjects}
use Rattle.ci_memory.specs.Remembered.{Remembered}
use Rattle.ci_memory.specs.Right.{IsRight}
use Rattle.ci_memory.specs.Runners.{AreRunners}
use Rattle.ci_server_lookups.proofs.Changes.{state_stays}
use Rattle.ci_memory.proofs.memory.Memory.after.Goals as goal

-- each part by what it is after the same changes
pub returns : goal.returns
returns c k right =
    let d = c.args.delta.now in
    let before : Kept = cleared d.cleared k in
    let now : Kept = written d.changes d.rows d.indexes before in
    let same = state_stays d.indexes (record before { state = applied d.changes before.state; board = put_rows d.rows before.board }) in
    let inside = c.self.inside in
    let was : IsRight (record { numbers = inside.numbers; projects = inside.projects; runners = inside.runners; modes = inside.modes; queue = inside.queue; lines = inside.lines; leases = inside.leases; pipelines = inside.pipelines; newest = inside.newest; boards = inside.boards }) k = subst (λ (m : Remembered). IsRight m k) (sym c.self.view_is) right in
    record {
      numbers = subst (λ (s : State). AreNext c.after.result s.next) (sym same) (subst (λ (cs : List RowChange). AreNext c.after.result (applied cs k.state).next) c.changes.ensures (c.after.ensures k.state was.numbers));
      projects = subst (λ (s : State). AreProjects c.after-2.result s) (sym same) (subst (λ (cs : List RowChange). AreProjects c.after-2.result (applied cs k.state)) c.changes-2.ensures (c.after-2.ensures k.state was.projects));
      runners = subst (λ (s : State). AreRunners c.after-3.result s) (sym same) (subst (λ (cs : List RowChange). AreRunners c.after-3.result (applied cs k.state)) c.changes-3.ensures (c.after-3.ensures k.state was.runners));
      modes = subst (λ (s : State). AreModes c.after-4.result s) (sym same) (subst (λ (cs : List RowChange). AreModes c.after-4.result (applied cs k.state)) c.changes-4.ensures (c.after-4.ensures k.state was.modes));
      queue = subst₂ (λ (cs : List RowChange) (rs : List BoardRow). queue.IsRight c.queue_after.result (written cs rs d.indexes before)) c.changes-5.ensures c.rows.ensures (c.queue_after.ensures k d.cleared d.indexes was.queue);
      lines = subst₂ (λ (cs : List RowChange) (rs : List BoardRow). lines.IsRight c.lines_after.result (written cs rs d.indexes before)) c.changes-6.ensures c.rows-2.ensures (c.lines_after.ensures k d.cleared d.indexes was.lines);
      leases = subst (λ (cs : List RowChange). AreRight c.after-5.result (written cs d.rows d.indexes before)) c.changes-7.ensures (c.after-5.ensures k d.cleared d.rows d.indexes was.leases);
      pipelines = subst₂ (λ (cs : List RowChange) (is : List IndexChange). alone.IsRight c.open_after.result (written cs d.rows is before)) c.changes-8.ensures c.indexes.ensures (c.open_after.ensures k d.cleared d.rows was.pipelines);
      newest = subst (λ (s : State). AreNewest c.after-6.result s) (sym same) (subst (λ (cs : List RowChange). AreNewest c.after-6.result (applied cs k.state)) c.changes-9.ensures (c.after-6.ensures k.state was.newest));
      boards = subst (λ (gone : List ℕ). boards.AreRight c.after-7.result (written d.changes d.rows d.indexes (cleared gone k))) c.cleared.ensures
          (subst₂ (λ (cs : List RowChange) (rs : List BoardRow). boards.AreRight c.after-7.result (written cs rs d.indexes (cleared c.cleared.result.now k))) c.changes-10.ensures c.rows-3.ensures (c.after-7.ensures k d.indexes was.in_order was.boards));
      in_order = written_in_order k d.changes d.rows d.indexes d.cleared was.in_order;
    }
