-- A manual job is played.
use Rattle.std.specs.Prelude.{Bool, true, false, List, [], ◌∷◌}
use Rattle.ci_machine.specs.Prelude.{Status}
use Rattle.ci_machine.specs.declared.records.Job.{Job}
use Rattle.ci_machine.specs.declared.change.RowChange.{RowChange}
use Rattle.ci_machine.specs.declared.change.RowChange.TheVariants.{Put}
use Rattle.ci_machine.specs.declared.change.Record.{Record}

-- a job of this status can be played
abbrev pub is_playable : Status → Bool
is_playable Status.Manual = true
is_playable _ = false

-- it is marked as played, and the mark stays through retries
abbrev pub play : Job → List RowChange
play job = Put (Record.Job (record job { played = true })) ∷ []
