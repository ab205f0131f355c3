-- The pipelines that aren't finished, as they are looked up by the rows of their jobs' statuses.
use Rattle.std.specs.Prelude.{◌≡◌, ℕ, Bool, true, false, ◌==◌, ◌&&◌, not, List, Option, Some, None}
use Rattle.std.specs.List.{list_any}
use Rattle.ci_machine_steps.specs.Prelude.{AllowFailure, No, Yes, ExitCodes, Status, Job, BoardRow, State, Kept, job_at}

-- a manual job may be left out: it is allowed to fail, whatever its exit code
abbrev pub may_be_left_out : AllowFailure → Bool
may_be_left_out Yes = true
may_be_left_out No = false
may_be_left_out (ExitCodes codes) = false

-- a pipeline isn't finished while it has a job with this status
abbrev pub keeps_open : AllowFailure → Status → Bool
keeps_open allow Status.Pending = true
keeps_open allow Status.Running = true
keeps_open allow Status.Manual = not (may_be_left_out allow)
keeps_open allow Status.Created = false
keeps_open allow Status.Success = false
keeps_open allow Status.Failed = false
keeps_open allow Status.Canceled = false
keeps_open allow Status.Skipped = false

-- the job is one of pipeline n, and with this status keeps it from being finished
abbrev pub opens_with : ℕ → Status → Option Job → Bool
opens_with n s None = false
opens_with n s (Some j) = keeps_open j.options.part.allow_failure s && (j.pipeline == n)

-- by this row of one of its jobs pipeline n isn't finished
abbrev pub opens : State → ℕ → BoardRow → Bool
opens s n r = opens_with n r.row.status (job_at s r.job)

-- the number is one of these
abbrev pub has_number : ℕ → List ℕ → Bool
has_number n numbers = list_any (λ m. m == n) numbers

-- these numbers are those of the pipelines that aren't finished, in any order
abbrev pub AreOpen : Kept → List ℕ → Type 0
AreOpen k numbers = (n : ℕ) → list_any (λ m. m == n) numbers ≡ list_any (λ u. u.pipeline == n) k.unfinished
