-- Worked examples of what is shown after a user's act of a job with a resource group, each one computed.
use Rattle.std.specs.Prelude.{false, List, [], ◌∷◌, None}
use Rattle.ci_machine_steps.specs.Prelude.{Succeeded, Status, BoardRow, OldestFirst, Job, RowChange, State, applied, attempts_of, status_for, claims_in, Plan, job_shown, cancel}
use Rattle.ci_machine_steps.specs.Prelude.{retry}
use Rattle.ci_machine_laws.specs.ActExamples.{row, board_from}
use Rattle.ci_machine_laws.specs.WaitingExamples.{ship}
use Rattle.ci_machine_laws.specs.ModeExamples.{prod_in, three, third_tried}

-- the changes, and the reply that shows the job of the project 1 where the state after them has this board
abbrev pub shown_after : State → List BoardRow → Job → List RowChange → Plan
shown_after s board j changes = let t = applied changes s in ((job_shown (claims_in t board j.pipeline) 1 j (status_for board j.id)).0, changes)

-- the rows of the jobs 1, 2 and 3, of which none waits for another
abbrev pub three_rows : Status → Status → Status → List BoardRow
three_rows first second third = board_from 1 (row first 0 0 0 ∷ row second 0 0 0 ∷ row third 0 0 0 ∷ [])

-- The pipelines 1, 2 and 3 have a job `ship` each, 1, 2 and 3, with the group `prod`, which takes the oldest first. All are pending.
abbrev pub oldest : State
oldest = three (prod_in 1 OldestFirst) []

abbrev pub all_wait : List BoardRow
all_wait = three_rows Status.Pending Status.Pending Status.Pending

-- the job 2 is cancelled
abbrev pub second_cancelled : Plan
second_cancelled = shown_after oldest (three_rows Status.Pending Status.Canceled Status.Pending) (ship false 2) (cancel oldest.attempts (ship false 2 ∷ []))

-- or the job 1 is, for which the others wait
abbrev pub first_cancelled : Plan
first_cancelled = shown_after oldest (three_rows Status.Canceled Status.Pending Status.Pending) (ship false 1) (cancel oldest.attempts (ship false 1 ∷ []))

-- the job 3 succeeded, and is tried again
abbrev pub third_done : State
third_done = three (prod_in 1 OldestFirst) (third_tried (Succeeded None))

abbrev pub third_retried : Plan
third_retried = shown_after third_done all_wait (ship false 3) (retry (attempts_of third_done 3) (ship false 3))
