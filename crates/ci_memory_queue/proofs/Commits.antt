-- What is remembered of the pending jobs, and of those that wait, is right after a commit.
use Rattle.std.proofs.Common.{◌≡◌, ℕ, ◌≤◌, Bool, List, Option, Some, IfSome, option_map, option_and_then, refl, sym, ap, subst, ◌∙◌, arith}
use Rattle.ci_machine_steps.specs.Prelude.{Pending, is_status, BoardRow, OldestFirst, NewestReadyFirst, Job, RowChange, IndexChange, State, Kept, cleared, written, row_or_none, job_at, pipeline_at}
use Rattle.ci_store.specs.Prelude.{row_at}
use Rattle.ci_memory_queue.specs.declared.queue.Class.{Class}
use Rattle.ci_memory_queue.specs.declared.queue.Queue.{Queue}
use Rattle.ci_memory_queue.specs.declared.lines.Line.{Line}
use Rattle.ci_memory_queue.specs.declared.lines.Lines.{Lines}
use Rattle.ci_memory_queue.specs.declared.lines.Place.{Place}
use Rattle.ci_memory_queue.specs.Covers.{asked_by, IsSorted, Covers, IsRight}
use Rattle.ci_memory_queue.specs.LineCovers as line
use Rattle.ci_memory_queue.specs.Notes.{Noted, noted}
use Rattle.ci_memory_queue.specs.Places.{place_by, counts}
use Rattle.ci_memory_queue.proofs.Noting.{covers_written}
use Rattle.ci_memory_queue.proofs.Waits.{maker, made_alike}

-- the row that is found says whether the job is pending
abbrev says_pending : Option BoardRow → Bool
says_pending o = is_status (row_or_none o).status Pending

sorted_stays : (classes : List Class) (s t : State) (board : List BoardRow) (newest n : ℕ) → job_at t n ≡ job_at s n → ((m : ℕ) → m ≤ newest → pipeline_at t m ≡ pipeline_at s m)
    → IsSorted s classes newest n → IsSorted t classes newest n
sorted_stays classes s t board newest n job pipelines w = record {
  asks = w.asks;
  asked = ap (option_and_then (λ (j : Job). option_map (asked_by j) (pipeline_at t j.pipeline))) job ∙ (made_alike asked_by (job_at s n) newest (pipeline_at s) (pipeline_at t) pipelines w.pipeline ∙ w.asked);
  among = w.among;
  pipeline = subst (λ (o : Option Job). IfSome o (λ j. j.pipeline ≤ newest)) (sym job) w.pipeline;
}

-- what was right before is right after
pub right_after : (o : Option Queue) (q : Queue) (after : Noted) (changes : List RowChange) (rows : List BoardRow) (indexes : List IndexChange) (jobs : List ℕ) (k : Kept)
    → o ≡ Some q → noted NewestReadyFirst changes rows q.notes ≡ Some after → IsRight o k → Covers q.classes.items after (written changes rows indexes (cleared jobs k)).state (written changes rows indexes (cleared jobs k)).board
right_after o q after changes rows indexes jobs k is notes right =
    covers_written NewestReadyFirst says_pending (λ r. refl) refl (λ s board newest n. IsSorted s q.classes.items newest n) (sorted_stays q.classes.items) (λ s board more newest n row w. w)
    changes rows indexes jobs k q.notes after notes (subst (λ (p : Option Queue). IsRight p k) is right)

-- ---- the jobs that wait

lines_stay : (lines : List Line) (s t : State) (board : List BoardRow) (newest n : ℕ) → job_at t n ≡ job_at s n → ((m : ℕ) → m ≤ newest → pipeline_at t m ≡ pipeline_at s m)
    → line.IsSorted s board lines newest n → line.IsSorted t board lines newest n
lines_stay lines s t board newest n job pipelines w = record {
  place = w.place;
  placed = ap (option_and_then (λ (j : Job). option_map (place_by j) (pipeline_at t j.pipeline))) job ∙ (made_alike place_by (job_at s n) newest (pipeline_at s) (pipeline_at t) pipelines its ∙ w.placed);
  pipeline = w.pipeline;
  in_turn = w.in_turn;
}
  where
    its : IfSome (job_at s n) (λ j. j.pipeline ≤ newest)
    its =
        let own = maker place_by (job_at s n) (pipeline_at s) w.place w.placed in
        let number = ap (λ (p : Place). p.pipeline) own.4 in
        subst (λ (o : Option Job). IfSome o (λ j. j.pipeline ≤ newest)) (sym own.1) (omega (arith, number, w.pipeline))

lines_stay_by_row : (lines : List Line) (s : State) (board more : List BoardRow) (newest n : ℕ) → row_at n more ≡ row_at n board → line.IsSorted s board lines newest n → line.IsSorted s more lines newest n
lines_stay_by_row lines s board more newest n row w = record {
  place = w.place;
  placed = w.placed;
  pipeline = w.pipeline;
  in_turn = subst (λ (ready : Bool). line.IsInTurn lines w.place ready n) (ap (counts NewestReadyFirst) (sym row)) w.in_turn;
}

pub lines_right_after : (o : Option Lines) (q : Lines) (after : Noted) (changes : List RowChange) (rows : List BoardRow) (indexes : List IndexChange) (jobs : List ℕ) (k : Kept)
    → o ≡ Some q → noted OldestFirst changes rows q.notes ≡ Some after → line.IsRight o k → line.Covers q.lines.items after (written changes rows indexes (cleared jobs k)).state (written changes rows indexes (cleared jobs k)).board
lines_right_after o q after changes rows indexes jobs k is notes right =
    covers_written OldestFirst (counts OldestFirst) (λ r. refl) refl (λ s board newest n. line.IsSorted s board q.lines.items newest n) (lines_stay q.lines.items) (lines_stay_by_row q.lines.items)
    changes rows indexes jobs k q.notes after notes (subst (λ (p : Option Lines). line.IsRight p k) is right)
