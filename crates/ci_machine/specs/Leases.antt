-- Leases: when a runner was last heard of, when its lease is over, what of it is accepted, and how an attempt ends.
use Rattle.std.specs.Prelude.{ℕ, ◌+◌, Bool, true, false, List, find, if◌then◌else◌, nat_le, ◌==◌, min, max, Option, Some, None, Result, Ok, Err}
use Rattle.std.specs.Result.{result_map_both}
use Rattle.ci_machine.specs.declared.records.Attempt.{Attempt}
use Rattle.ci_board.specs.Prelude.{AttemptState, Live, Succeeded, Failed, Cancelled, Cause, JobExecutionTimeout, StuckOrTimeoutFailure, is_live_state}
use Rattle.ci_machine.specs.declared.limits.TheConstants.{LEASE_SECONDS, MAX_TRACE_BYTES}
use Rattle.ci_machine.specs.declared.lease.Lease.{Lease}
use Rattle.ci_machine.specs.declared.lease.LeaseFault.{LeaseFault}
use Rattle.ci_machine.specs.declared.lease.LeaseFault.TheVariants.{NotLive, LeaseOver}
use Rattle.ci_machine.specs.declared.lease.PieceFault.{PieceFault}
use Rattle.ci_machine.specs.declared.lease.PieceFault.TheVariants.{Unleased, WrongOffset, TraceFull}

-- a live attempt is its runner's lease on the job
abbrev pub is_live : Attempt → Bool
is_live a = is_live_state a.state

-- the moment at which the lease of an attempt with this time limit is over
abbrev pub deadline : Attempt → ℕ → ℕ
deadline a limit = min (a.seen + LEASE_SECONDS) (a.granted + limit)

abbrev pub is_over : Attempt → ℕ → ℕ → Bool
is_over a limit now = nat_le (deadline a limit) now

-- nothing of the runner is accepted on an attempt that has ended, or whose lease is over
abbrev pub while_leased : {A : Type 0} → AttemptState → Bool → A → Result A LeaseFault
while_leased Live over x = if over then Err LeaseOver else Ok x
while_leased (Succeeded exit) over x = Err (NotLive (Succeeded exit))
while_leased (Failed cause exit) over x = Err (NotLive (Failed cause exit))
while_leased Cancelled over x = Err (NotLive Cancelled)

-- when the runner was last heard of, if it is heard of now: never earlier than before
abbrev pub renewed : Attempt → ℕ → ℕ → Result ℕ LeaseFault
renewed a limit now = while_leased a.state (is_over a limit now) (max a.seen now)

-- the size of a trace of this size after a piece of so many bytes from an offset
abbrev pub size_after : ℕ → ℕ → ℕ → Result ℕ PieceFault
size_after size from count =
    if from == size then (if nat_le (size + count) MAX_TRACE_BYTES then Ok (size + count) else Err TraceFull)
    else Err (WrongOffset size)

abbrev pub if_leased : Result ℕ LeaseFault → Result ℕ PieceFault → Result ℕ PieceFault
if_leased (Ok seen) r = r
if_leased (Err fault) r = Err (Unleased fault)

abbrev pub accepted : Attempt → ℕ → ℕ → ℕ → ℕ → ℕ → Result ℕ PieceFault
accepted a limit now size from count = if_leased (renewed a limit now) (size_after size from count)

abbrev pub same_exit : Option ℕ → Option ℕ → Bool
same_exit None None = true
same_exit None (Some y) = false
same_exit (Some x) None = false
same_exit (Some x) (Some y) = x == y

-- both succeeded or both failed, with the same exit code or the same lack of one
abbrev pub is_same_end : AttemptState → AttemptState → Bool
is_same_end (Succeeded x) (Succeeded y) = same_exit x y
is_same_end (Failed c x) (Failed d y) = same_exit x y
is_same_end Live t = false
is_same_end Cancelled t = false
is_same_end (Succeeded x) Live = false
is_same_end (Succeeded x) (Failed d y) = false
is_same_end (Succeeded x) Cancelled = false
is_same_end (Failed c x) Live = false
is_same_end (Failed c x) (Succeeded y) = false
is_same_end (Failed c x) Cancelled = false

-- the state of an attempt after its runner sent a final one: a repeat changes nothing
abbrev pub finished : Attempt → ℕ → ℕ → AttemptState → Result AttemptState LeaseFault
finished a limit now final = if is_same_end a.state final then Ok a.state else while_leased a.state (is_over a limit now) final

-- the attempt after that: all but its state is as it was
abbrev pub after_final : Attempt → ℕ → ℕ → AttemptState → Result Attempt LeaseFault
after_final a limit now final = result_map_both (λ state. record a { state = state }) (λ fault. fault) (finished a limit now final)

-- why a lease that is over ends: by its job's time limit, where that comes no later than the runner's silence
abbrev pub cause_of : Lease → Cause
cause_of l = if nat_le (l.attempt.granted + l.limit) (l.attempt.seen + LEASE_SECONDS) then JobExecutionTimeout else StuckOrTimeoutFailure

-- the first lease that is over, of leases by number
abbrev pub first_due : List Lease → ℕ → Option Lease
first_due leases now = find (λ l. is_over l.attempt l.limit now) leases
