-- Histories: what happened from the empty state on.
use Rattle.std.specs.Prelude.{◌≡◌, ℕ, List, [], ◌∷◌}
use Rattle.ci_machine.specs.declared.request.Event.{Event}
use Rattle.ci_machine.specs.declared.request.Seed.{Seed}
use Rattle.ci_machine.specs.declared.reply.Answer.{Answer}
use Rattle.ci_machine.specs.Prelude.{State, empty}
use Rattle.ci_machine_steps.specs.Step.{Step}

-- one line of a history: what happened, in which state, and what was answered
pub record Past : Type 0 where
  pub before : State
  pub event : Event
  pub now : ℕ
  pub seed : Seed
  pub answer : Answer

-- the history, its newest line first, leads from the empty state to this one: a run of the machine
abbrev pub Leads : List Past → State → Type 0
Leads [] s = s ≡ empty
Leads (p ∷ earlier) s = Leads earlier p.before × Step p.before p.event p.now p.seed p.answer s

-- some history leads to the state
abbrev pub IsReached : State → Type 0
IsReached s = (h : List Past) × Leads h s
