-- What a runner sends again, as it does where a reply was lost: it changes nothing, and what it is answered then.
use Rattle.std.specs.Prelude.{◌≡◌, ◌⊎◌, ℕ, Bool, true, false, List, [], ◌∷◌, map, All, Contains}
use Rattle.ci_machine_steps.specs.Prelude.{Attempt, Event, UpdateJob, AppendTrace, JobUpdate, Report, Answer, M5, Fine, Reply, refusal, State, Past, WentWithItsJob}

-- a runner says how an attempt stands (PUT), or sends the next bytes of its trace (PATCH)
abbrev pub is_of_runner : Event → Bool
is_of_runner (Event.Request (UpdateJob update)) = true
is_of_runner (Event.Request (AppendTrace part)) = true
is_of_runner _ = false

-- a final state
abbrev pub is_final : Report → Bool
is_final Report.Running = false
is_final (Report.Success exit) = true
is_final (Report.Failed cause exit) = true

-- ---- sent twice at one moment

-- by the line a runner sent this at this moment; its chance may be another
pub record IsSentBy (line : Past) (e : Event) (now : ℕ) : Type 0 where
  pub of_runner : is_of_runner e ≡ true
  pub same : line.event ≡ e
  pub at_once : line.now ≡ now

-- a runner sent this already, at this moment, by a line of the history since which nothing has changed
abbrev pub WasJustSent : List Past → State → Event → ℕ → Type 0
WasJustSent [] s e now = ⊥
WasJustSent (line ∷ earlier) s e now = IsSentBy line e now ⊎ ((line.before ≡ s) × WasJustSent earlier s e now)

-- what was just sent, and is sent again, leaves the state that it left once
abbrev pub TwiceIsOnce : List Past → Past → State → Type 0
TwiceIsOnce earlier again s = WasJustSent earlier again.before again.event again.now → s ≡ again.before

-- ---- a final state that comes again

-- by the line a runner sent a final state of an attempt, and was answered 200
pub record IsTakenEnd (line : Past) : Type 0 where
  pub update : JobUpdate
  pub sent : line.event ≡ Event.Request (UpdateJob update)
  pub final : is_final update.report ≡ true
  pub reply : Reply
  pub answered : line.answer ≡ Answer.Reply reply
  pub fine : reply.status ≡ Fine

-- the attempt n is in the state
abbrev pub IsThere : ℕ → State → Type 0
IsThere n s = Contains (map (λ a. a.id) s.attempts) n

-- What is answered to a final state of the attempt n that comes again behind the history h, one line of which, the first, was answered 200 to it.
pub data IsAnsweredAgain (h : List Past) (first again : Past) (n : ℕ) : Type 0 where
  -- the same, while the attempt is there
  while_there : IsThere n again.before → again.answer ≡ first.answer → IsAnsweredAgain h first again n
  -- M5, once the attempt went with its pipeline, which a line of the history pruned
  once_pruned : (a : Attempt) → a.id ≡ n → WentWithItsJob h a → (IsThere n again.before → ⊥) → again.answer ≡ Answer.Reply (refusal M5) → IsAnsweredAgain h first again n

-- where some line before it is the same final state, and was answered 200, a line changes nothing, whatever came between them
abbrev pub EndsOnce : List Past → Past → State → Type 0
EndsOnce earlier again s =
    All (λ first. (end : IsTakenEnd first) → again.event ≡ first.event → (s ≡ again.before) × IsAnsweredAgain earlier first again end.update.attempt) earlier

-- ---- the law of a history

-- each line of the history, with the lines before it and the state that it left
abbrev pub OfEachLine : (List Past → Past → State → Type 0) → List Past → State → Type 0
OfEachLine P [] s = Unit {0}
OfEachLine P (line ∷ earlier) s = P earlier line s × OfEachLine P earlier line.before

-- in the history, which leads to this state, what a runner sent again changed nothing
pub record RepeatsChangeNothing (h : List Past) (s : State) : Type 0 where
  pub twice_is_once : OfEachLine TwiceIsOnce h s
  pub ends_once : OfEachLine EndsOnce h s
