use Rattle.std.proofs.Common.{◌≡◌, drop}
use Rattle.ci_plan.specs.Notes.{is_noted}
use Rattle.ci_plan.proofs.notes.is_noted.Given as goal

abbrev pub invariant-loop-note : goal.invariant-loop-note
invariant-loop-note l = is_noted (drop l.note-index l.notes) l.fn.name ≡ is_noted l.notes l.fn.name
