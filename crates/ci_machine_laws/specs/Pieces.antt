-- What an accepted piece of a trace does.
use Rattle.std.specs.Prelude.{◌≡◌, ℕ, ◌++◌, ◌≤◌, length, Some}
use Rattle.ci_machine_steps.specs.Prelude.{MAX_TRACE_BYTES, TracePart, Reply, State, trace_of}

-- From the one state to the other the piece goes behind the trace of its attempt, at whose end it begins; the reply tells the size that the
-- trace has then; and each other trace stays.
pub record GoesBehind (s t : State) (part : TracePart) (reply : Reply) : Type 0 where
  pub begins : part.from ≡ length (trace_of s part.attempt)
  pub trace : trace_of t part.attempt ≡ trace_of s part.attempt ++ part.bytes
  pub told : reply.range ≡ Some (length (trace_of t part.attempt))
  pub limited : length (trace_of t part.attempt) ≤ MAX_TRACE_BYTES
  pub others : (n : ℕ) → (n ≡ part.attempt → ⊥) → trace_of t n ≡ trace_of s n
