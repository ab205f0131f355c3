-- Sweeps at one moment, one after the other.
use Rattle.std.specs.Prelude.{◌≡◌, ℕ, ◌+◌, ◌≤◌, List, [], ◌∷◌, ◌++◌, length, All}
use Rattle.ci_machine_steps.specs.Prelude.{BoardRow, Event, Seed, Answer, Swept, State, unfinished_in, Step, live_attempts, NoneIsDue, NoneIsRedundant}

-- from the one state the sweeps at this moment, which did this in turn, lead to the other
abbrev pub Sweeps : ℕ → State → List Swept → State → Type 0
Sweeps now s [] t = t ≡ s
Sweeps now s (did ∷ later) t = (next : State) × (seed : Seed) × Step s Event.Sweep now seed (Answer.Swept did) next × Sweeps now next later t

-- how many attempts are live, and how many pipelines aren't finished, where the state's jobs have these rows
abbrev pub unended : State → List BoardRow → ℕ
unended s board = length (live_attempts s) + length (unfinished_in s board)

-- From the state on sweeps at this moment do something, one after the other, until the last finds nothing. They are so many, and then no lease is
-- due at that moment, and no pipeline is redundant.
pub record EndsBy (now : ℕ) (s : State) (board : List BoardRow) : Type 0 where
  pub did : List Swept
  pub last : State
  pub sweeps : Sweeps now s (did ++ (Swept.Nothing ∷ [])) last
  pub something : All (λ d. d ≡ Swept.Nothing → ⊥) did
  pub few : length did ≤ unended s board
  pub none_due : NoneIsDue last now
  pub none_redundant : NoneIsRedundant last
