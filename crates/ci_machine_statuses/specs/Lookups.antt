-- What is looked up of a pipeline's jobs, and what a board takes of it.
use Rattle.std.specs.Prelude.{◌≡◌, ℕ, ◌-◌, true, List, length, filter, All, Option, Some, None, option_map, if◌then◌else◌, ◌==◌, slice_index_or}
use Rattle.std.specs.List.{last_or}
use Rattle.ci_machine.specs.Prelude.{is_among}
use Rattle.ci_machine_steps.specs.Prelude.{Facts, Job, Need, Attempt, BoardRow, State, jobs_of, place_in, is_within, needs_within, attempts_within, rows_within}
use Rattle.ci_machine_statuses.specs.declared.tally.Tally.{Tally}

-- These are the jobs of the pipeline, and the needs, attempts and rows of the jobs between two numbers, which take in its own.
pub record AreRecords (s : State) (board : List BoardRow) (pipeline : ℕ) (jobs : List Job) (needs : List Need) (attempts : List Attempt) (rows : List BoardRow) : Type 0 where
  pub first : ℕ
  pub last : ℕ
  pub inside : All (λ j. is_within first last j.id ≡ true) jobs
  pub are_jobs : jobs ≡ jobs_of s pipeline
  pub are_needs : needs ≡ needs_within first last s.needs
  pub are_attempts : attempts ≡ attempts_within first last s.attempts
  pub are_rows : rows ≡ rows_within first last board

-- These are the jobs of the pipeline, and the needs of the jobs between two numbers, which take in its own.
pub record AreJobsWithNeeds (s : State) (pipeline : ℕ) (jobs : List Job) (needs : List Need) : Type 0 where
  pub first : ℕ
  pub last : ℕ
  pub inside : All (λ j. is_within first last j.id ≡ true) jobs
  pub are_jobs : jobs ≡ jobs_of s pipeline
  pub are_needs : needs ≡ needs_within first last s.needs

-- where a number stands among numbers in their order, if it is one of them
abbrev pub place_of : List ℕ → ℕ → Option ℕ
place_of numbers n = if is_among numbers n then Some (place_in numbers n) else None

abbrev pub no_tally : Tally
no_tally = record { count = 0; last = None }

abbrev pub tally_at : List Tally → ℕ → Tally
tally_at tallies place = slice_index_or tallies place no_tally

-- how many attempts a job has, and how the last of them stands
abbrev pub tally_of : List Attempt → ℕ → Tally
tally_of attempts job =
    let its = filter (λ a. a.job == job) attempts in
    record { count = length its; last = option_map (λ a. a.state) (last_or None its) }

-- the facts of a job with such attempts
abbrev pub facts_by : Tally → Job → Facts
facts_by tally j = record { last = tally.last; attempts = tally.count - j.set_aside; cancelled = j.cancelled; played = j.played }
