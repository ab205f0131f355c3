-- What an accepted piece of a trace does.
use Rattle.ci_machine_laws.proofs.Prelude.{◌≡◌, ℕ, ◌+◌, ◌≤◌, true, ◌==◌, nat_le, ◌++◌, length, if◌then◌else◌, Option, Some, None, option_map, Result, Ok, Err, refl, sym, ap}
use Rattle.ci_machine_laws.proofs.Prelude.{subst, ◌∙◌, eqb-true, leb-true, bytes_eq, cond_both, false≢true, length-append, has_find, its_trace, other_trace}
use Rattle.ci_machine_steps.specs.Prelude.{Attempt, Trace, LeaseFault, NotLive, PieceFault, Unleased, WrongOffset, TraceFull, MAX_TRACE_BYTES, TracePart, Event, AppendTrace}
use Rattle.ci_machine_steps.specs.Prelude.{Seed, Answer, Accepted, M5, Reply, State, applied, renewed, size_after, if_leased, accepted, Plan, refused, appended, append_trace}
use Rattle.ci_machine_steps.specs.Prelude.{Step, attempt_at, lease_of, trace_of, is_accepted}
use Rattle.ci_machine_laws.specs.Pieces.{GoesBehind}

-- a trace of this size takes so many bytes from this offset, and has the size z then
pub record Fits (size from count z : ℕ) : Type 0 where
  pub begins : from ≡ size
  pub sum : z ≡ size + count
  pub limited : z ≤ MAX_TRACE_BYTES

fits : (size from count z : ℕ) → size_after size from count ≡ Ok z → Fits size from count z
fits size from count z =
    let P : Result ℕ PieceFault → Type 0 = λ r. r ≡ Ok z → Fits size from count z in
    cond_both (from == size) (if nat_le (size + count) MAX_TRACE_BYTES then Ok (size + count) else Err TraceFull) (Err (WrongOffset size)) P
    (λ e. cond_both (nat_le (size + count) MAX_TRACE_BYTES) (Ok (size + count)) (Err TraceFull) P
    (λ l k. let sum : size + count ≡ z = cc in
    record { begins = eqb-true from size e; sum = sym sum; limited = subst (λ n. n ≤ MAX_TRACE_BYTES) sum (leb-true (size + count) MAX_TRACE_BYTES l) })
    (λ _ k. absurd (cc)))
    (λ _ k. absurd (cc))

pub accepted_fits : (renewal : Result ℕ LeaseFault) (size from count z : ℕ) → if_leased renewal (size_after size from count) ≡ Ok z → Fits size from count z
accepted_fits (Ok seen) size from count z e = fits size from count z e
accepted_fits (Err fault) size from count z e = absurd (cc)

-- the plan, if it accepts the piece, puts it behind its trace
abbrev Goes : State → TracePart → Plan → Type 0
Goes s part plan = is_accepted plan.0.status ≡ true → GoesBehind s (applied plan.1 s) part plan.0

appends : (s : State) (part : TracePart) (now : ℕ) (a : Attempt) → a.id ≡ part.attempt → (r : Result ℕ PieceFault)
    → ((z : ℕ) → r ≡ Ok z → Fits (length (trace_of s part.attempt)) part.from (length part.bytes) z) → Goes s part (appended a part.bytes now r)
appends s part now a its (Ok size) fit is =
    let f = fit size refl in
    let t = applied (appended a part.bytes now (Ok size)).1 s in
    let new : Trace = record { attempt = a.id; bytes = part.bytes } in
    let trace : trace_of t part.attempt ≡ trace_of s part.attempt ++ part.bytes = its_trace new part.attempt s.traces its in
    let long : size ≡ length (trace_of t part.attempt) = f.sum ∙ sym (ap length trace ∙ length-append (trace_of s part.attempt) part.bytes) in
    record {
      begins = f.begins;
      trace = trace;
      told = ap (λ n. Some n) long;
      limited = subst (λ n. n ≤ MAX_TRACE_BYTES) long f.limited;
      others = λ n d. other_trace new n s.traces (λ e. d (sym e ∙ its));
    }
appends s part now a its (Err (Unleased (NotLive state))) fit is = absurd (false≢true is)
appends s part now a its r fit is = absurd (false≢true is)

parts : (s : State) (part : TracePart) (now : ℕ) (o : Option Attempt) → attempt_at s part.attempt ≡ o → Goes s part (append_trace (option_map (lease_of s) o) (length (trace_of s part.attempt)) part now)
parts s part now None found = λ is. absurd (false≢true is)
parts s part now (Some a) found =
    let limit = (lease_of s a).limit in
    let size = length (trace_of s part.attempt) in
    let its = eqb-true a.id part.attempt (has_find (λ (b : Attempt). b.id == part.attempt) a s.attempts found).1 in
    let r = accepted a limit now size part.from (length part.bytes) in
    cond_both (bytes_eq a.token part.token) (appended a part.bytes now r) (refused M5) (Goes s part)
    (λ _. appends s part now a its r (accepted_fits (renewed a limit now) size part.from (length part.bytes)))
    (λ _ is. absurd (false≢true is))

pub goes_behind : (s t : State) (part : TracePart) (now : ℕ) (seed : Seed) (reply : Reply) → Step s (Event.Request (AppendTrace part)) now seed (Answer.Reply reply) t → reply.status ≡ Accepted → GoesBehind s t part reply
goes_behind s t part now seed reply step is =
    let plan : Goes s part (reply, step.changes) = subst (Goes s part) (sym step.happens) (parts s part now (attempt_at s part.attempt) refl) in
    subst (λ w. GoesBehind s w part reply) (sym step.state) (plan (ap is_accepted is))
