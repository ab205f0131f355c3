use Rattle.ci_plan.specs.TableText.{note_line}
use Rattle.ci_plan.proofs.Further.{lines_further}
use Rattle.ci_plan.proofs.table.put_notes.Goals as goal

pub loop-note-preserved : goal.loop-note-preserved
loop-note-preserved c = lines_further note_line _ _ c.loop-note-test.true c.note-item.is c.in_ok-put_note.ensures c.loop-note.invariant
