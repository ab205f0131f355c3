use Rattle.std.proofs.Common.{◌≡◌, ◌++◌, drop, flat_map, string_bytes}
use Rattle.ci_plan.specs.TableText.{note_line}
use Rattle.ci_plan.proofs.table.put_notes.Given as goal

abbrev pub invariant-loop-note : goal.invariant-loop-note
invariant-loop-note l = string_bytes l.text ++ flat_map note_line (drop l.note-index l.notes) ≡ string_bytes l.fn.text ++ flat_map note_line l.notes
