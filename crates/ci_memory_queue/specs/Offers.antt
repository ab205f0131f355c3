-- The job that a runner may be given, as it is looked for class by class.
use Rattle.std.specs.Prelude.{◌≡◌, ◌≤◌, ◌<◌, ℕ, true, false, List, Contains, Option, Some, None, IfSome}
use Rattle.ci_machine_steps.specs.Prelude.{BoardRow, Runner, may_run, job_at, State, Kept, queued_at}
use Rattle.ci_store.specs.Prelude.{row_at}
use Rattle.ci_server_lookups.specs.declared.search.Offer.{Offer}
use Rattle.ci_memory_queue.specs.declared.queue.Asks.{Asks}
use Rattle.ci_memory_queue.specs.declared.queue.Class.{Class}
use Rattle.ci_memory_queue.specs.Covers.{asks_at, is_pending_at, IsAmong}
use Rattle.ci_memory_queue.specs.Turns.{pipeline_for, IsWanted, is_free_at}

-- a job was found that has no greater number
abbrev pub UpTo : Option Offer → ℕ → Type 0
UpTo None job = ⊥
UpTo (Some offer) job = offer.row.job ≤ job

-- the job has a lesser number than what was found, if something was
abbrev pub IsAhead : Option Offer → ℕ → Type 0
IsAhead None job = Unit {0}
IsAhead (Some offer) job = job < offer.row.job

-- the row of the job was looked up, which is pending, or it isn't
abbrev pub IsPendingRow : List BoardRow → ℕ → Option BoardRow → Type 0
IsPendingRow board job None = is_pending_at board job ≡ false
IsPendingRow board job (Some row) = (row.job ≡ job) × (row_at job board ≡ Some row) × (is_pending_at board job ≡ true)

-- the job of a pipeline asks this
abbrev pub IsDemand : State → ℕ → ℕ → Asks → Type 0
IsDemand s job pipeline asks = (asks_at s job ≡ Some asks) × IfSome (job_at s job) (λ j. j.pipeline ≡ pipeline)

-- What was found is a pending job that asks this, with its row.
pub record IsPendingOf (k : Kept) (asks : Asks) (offer : Offer) : Type 0 where
  pub row : row_at offer.row.job k.board ≡ Some offer.row
  pub pending : is_pending_at k.board offer.row.job ≡ true
  pub queued : queued_at k.state offer.row.job ≡ Some offer.queued
  pub asked : asks_at k.state offer.row.job ≡ Some asks

-- it is the job with this number, or this isn't pending or asks something else
abbrev pub IsOfferAt : Kept → Asks → ℕ → Option Offer → Type 0
IsOfferAt k asks job None = is_pending_at k.board job ≡ true → asks_at k.state job ≡ Some asks → ⊥
IsOfferAt k asks job (Some offer) = (offer.row.job ≡ job) × IsPendingOf k asks offer

-- it is the job with this number, which is lesser than that of what was found before; or this isn't lesser, isn't pending or asks something else
abbrev pub IsOfferAhead : Kept → Asks → ℕ → Option Offer → Option Offer → Type 0
IsOfferAhead k asks job before None = IsWanted k asks job → UpTo before job
IsOfferAhead k asks job before (Some offer) = (offer.row.job ≡ job) × IsPendingOf k asks offer × IsAhead before job

-- Of these jobs, which ask this, the first was looked for that is pending and has a lesser number than what was found before: no job of
-- them precedes it; or there is none, where none of them has a lesser number.
abbrev pub IsFirst : Kept → Asks → List ℕ → Option Offer → Option Offer → Type 0
IsFirst k asks jobs before None = (job : ℕ) → Contains jobs job → UpTo before job
IsFirst k asks jobs before (Some offer) =
    IsPendingOf k asks offer × ((job : ℕ) → Contains jobs job → offer.row.job ≤ job) × ((job : ℕ) → UpTo before job → offer.row.job ≤ job)

-- Of the jobs of a pipeline the first was looked for that is pending, asks this, and has a lesser number than what was found before.
abbrev pub IsFirstOf : Kept → Asks → ℕ → Option Offer → Option Offer → Type 0
IsFirstOf k asks pipeline before None = (job : ℕ) → IsWanted k asks job → pipeline_for k.state job ≡ pipeline → UpTo before job
IsFirstOf k asks pipeline before (Some offer) =
    IsPendingOf k asks offer
    × (pipeline_for k.state offer.row.job ≡ pipeline)
    × ((job : ℕ) → IsWanted k asks job → pipeline_for k.state job ≡ pipeline → offer.row.job ≤ job)
    × ((job : ℕ) → UpTo before job → offer.row.job ≤ job)

-- Of these jobs the first was looked for that is pending, asks this, need not wait for its group, and has a lesser number than what was
-- found before.
abbrev pub IsFirstFree : Kept → Asks → List ℕ → Option Offer → Option Offer → Type 0
IsFirstFree k asks jobs before None = (job : ℕ) → Contains jobs job → IsWanted k asks job → is_free_at k asks job ≡ true → UpTo before job
IsFirstFree k asks jobs before (Some offer) =
    IsPendingOf k asks offer
    × (is_free_at k asks offer.row.job ≡ true)
    × ((job : ℕ) → Contains jobs job → IsWanted k asks job → is_free_at k asks job ≡ true → offer.row.job ≤ job)
    × ((job : ℕ) → UpTo before job → offer.row.job ≤ job)

-- The runner may be given the job, which asks this: it is pending, the runner may run it, and it need not wait for its group.
pub record IsOpen (k : Kept) (runner : Runner) (asks : Asks) (job : ℕ) : Type 0 where
  pub may : may_run runner asks.project asks.tags ≡ true
  pub wanted : IsWanted k asks job
  pub free : is_free_at k asks job ≡ true

-- what was found is a pending job that the runner may be given, with its row
abbrev pub MayBeGiven : Kept → Runner → Offer → Type 0
MayBeGiven k runner offer = (asks : Asks) × (IsPendingOf k asks offer × IsOpen k runner asks offer.row.job)

-- What was found is the least job of these classes that the runner may be given; none where there is no such job.
pub record IsBest (k : Kept) (runner : Runner) (classes : List Class) (best : Option Offer) : Type 0 where
  pub may : IfSome best (MayBeGiven k runner)
  pub least : (asks : Asks) (job : ℕ) → IsAmong classes asks job → IsOpen k runner asks job → UpTo best job

-- What is found with a class is what was found before it, or a job of a lesser number that the runner may be given; and no job of the class
-- that it may be given has a lesser number.
pub record IsBetter (k : Kept) (runner : Runner) (class : Class) (before after : Option Offer) : Type 0 where
  pub may : IfSome before (MayBeGiven k runner) → IfSome after (MayBeGiven k runner)
  pub earlier : (job : ℕ) → UpTo before job → UpTo after job
  pub least : (job : ℕ) → Contains class.jobs.keys job → IsOpen k runner class.asks job → UpTo after job
