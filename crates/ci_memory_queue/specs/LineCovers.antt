-- Which jobs that wait are remembered, and when that is right. A job waits where it is created or pending: where it counts in
-- `oldest_first`. It is ready where it is pending: where it counts in `newest_ready_first`.
use Rattle.std.specs.Prelude.{◌≡◌, ◌≤◌, ℕ, Bool, true, ◌&&◌, ◌==◌, List, [], find, Contains, Option, Some, None, IfSome}
use Rattle.std.specs.Str.{bytes_eq}
use Rattle.ci_machine_steps.specs.Prelude.{BoardRow, GroupOrder, OldestFirst, NewestReadyFirst, State, Kept}
use Rattle.ci_memory_queue.specs.declared.lines.Line.{Line}
use Rattle.ci_memory_queue.specs.declared.lines.Place.{Place}
use Rattle.ci_memory_queue.specs.declared.lines.Lines.{Lines}
use Rattle.ci_memory_queue.specs.Notes.{Noted, AreKnown}
use Rattle.ci_memory_queue.specs.Places.{place_at, counts_at}

-- ---- lines

-- the line is that of a resource group of a project
abbrev pub is_line_of : ℕ → List ℕ → Line → Bool
is_line_of project group l = (l.project == project) && bytes_eq l.group group

-- the first such line, if there is one
abbrev pub line_of : List Line → ℕ → List ℕ → Option Line
line_of lines project group = find (is_line_of project group) lines

-- the line has the job, and among those that are ready, if it is
abbrev pub IsIn : Bool → ℕ → Line → Type 0
IsIn ready job l = Contains l.waiting.keys job × (ready ≡ true → Contains l.ready.keys job)

-- there is a line, and it has the job
abbrev pub IsInLine : Option Line → Bool → ℕ → Type 0
IsInLine None ready job = ⊥
IsInLine (Some l) ready job = IsIn ready job l

-- a job with this place is in the line of its group, if it has one
abbrev pub IsInTurn : List Line → Place → Bool → ℕ → Type 0
IsInTurn lines place ready job = IfSome place.group (λ group. IsInLine (line_of lines place.project group) ready job)

-- the jobs of a line that may count in the order
abbrev pub jobs_in : GroupOrder → Line → List ℕ
jobs_in OldestFirst l = l.waiting.keys
jobs_in NewestReadyFirst l = l.ready.keys

abbrev pub jobs_of : GroupOrder → Option Line → List ℕ
jobs_of order None = []
jobs_of order (Some l) = jobs_in order l

-- ---- what is remembered

-- The job is there with its pipeline, which has no greater number than this one, and is in the line of its group, if it has one.
pub record IsSorted (s : State) (board : List BoardRow) (lines : List Line) (newest_pipeline job : ℕ) : Type 0 where
  pub place : Place
  pub placed : place_at s job ≡ Some place
  pub pipeline : place.pipeline ≤ newest_pipeline
  pub in_turn : IsInTurn lines place (counts_at NewestReadyFirst board job) job

-- each job that waits is noted as fresh or is sorted, and none of them has a greater number than the newest
abbrev pub Covers : List Line → Noted → State → List BoardRow → Type 0
Covers lines notes s board = AreKnown (counts_at OldestFirst board) (IsSorted s board lines) notes

-- where lines are remembered, they cover what is kept; nothing remembered is right for all
abbrev pub IsRight : Option Lines → Kept → Type 0
IsRight lines k = IfSome lines (λ q. Covers q.lines.items q.notes k.state k.board)

-- jobs that wait and are in line for their groups are so still
abbrev pub KeepsWaiting : Kept → List Line → List Line → Type 0
KeepsWaiting k old new = (job : ℕ) (place : Place) → counts_at OldestFirst k.board job ≡ true → place_at k.state job ≡ Some place
    → IsInTurn old place (counts_at NewestReadyFirst k.board job) job → IsInTurn new place (counts_at NewestReadyFirst k.board job) job
