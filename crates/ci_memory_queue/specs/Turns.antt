-- Which of the pending jobs that ask the same need not wait for their resource group.
use Rattle.std.specs.Prelude.{◌≡◌, ◌≤◌, ℕ, Bool, true, false, ◌==◌, List, Option, Some, None}
use Rattle.ci_machine_steps.specs.Prelude.{GroupOrder, OldestFirst, NewestReadyFirst, is_free, order_of, is_behind, Kept, job_at, State, waiting, claims_in, pipeline_or_none}
use Rattle.ci_server_lookups.specs.Prelude.{IsTurn}
use Rattle.ci_memory_queue.specs.declared.queue.Asks.{Asks}
use Rattle.ci_memory_queue.specs.declared.turns.Turn.{Turn}
use Rattle.ci_memory_queue.specs.Covers.{asks_at, is_pending_at}

-- the pipeline of the job with a number
abbrev pub pipeline_for : State → ℕ → ℕ
pipeline_for s job = pipeline_or_none (job_at s job)

-- the job is pending, and asks this
abbrev pub IsWanted : Kept → Asks → ℕ → Type 0
IsWanted k asks job = (is_pending_at k.board job ≡ true) × (asks_at k.state job ≡ Some asks)

-- the job, which asks this, need not wait for its group
abbrev pub is_free_at : Kept → Asks → ℕ → Bool
is_free_at k asks job = is_free (claims_in k.state k.board (pipeline_for k.state job)) asks.project asks.group

-- Of those that ask this none need wait for the group, or each must, or each pending one that isn't of this pipeline; in the order of the
-- oldest, none of them is of an older one.
abbrev pub IsTurnOf : Kept → Asks → Turn → Type 0
IsTurnOf k asks Turn.Anyone = (job : ℕ) → is_free_at k asks job ≡ true
IsTurnOf k asks Turn.Nobody = (job : ℕ) → is_free_at k asks job ≡ false
IsTurnOf k asks (Turn.Oldest n) = (job : ℕ) → IsWanted k asks job → (n ≤ pipeline_for k.state job) × (is_free_at k asks job ≡ (pipeline_for k.state job == n))
IsTurnOf k asks (Turn.Newest n) = (job : ℕ) → IsWanted k asks job → is_free_at k asks job ≡ (pipeline_for k.state job == n)

-- whose turn it is in a group with this order, which isn't held, where the jobs of this pipeline go first
abbrev pub turn_by : GroupOrder → Option ℕ → Turn
turn_by order None = Turn.Anyone
turn_by OldestFirst (Some first) = Turn.Oldest first
turn_by NewestReadyFirst (Some first) = Turn.Newest first

-- In a group that isn't held no job goes before others, or those of a pipeline do by the group's mode.
abbrev pub GoesFirst : Kept → ℕ → List ℕ → Turn → Type 0
GoesFirst k project group Turn.Anyone = (n : ℕ) → is_behind (order_of k.state.modes project group) (waiting k.state k.board) project n group ≡ false
GoesFirst k project group Turn.Nobody = ⊥
GoesFirst k project group (Turn.Oldest n) = (order_of k.state.modes project group ≡ Some OldestFirst) × IsTurn OldestFirst (waiting k.state k.board) project group (Some n)
GoesFirst k project group (Turn.Newest n) = (order_of k.state.modes project group ≡ Some NewestReadyFirst) × IsTurn NewestReadyFirst (waiting k.state k.board) project group (Some n)
