-- What a request does that sets the process mode of a resource group.
use Rattle.std.specs.Prelude.{◌≡◌, ℕ, List}
use Rattle.ci_machine_steps.specs.Prelude.{NewMode, State, order_of}

-- From the one state to the other nothing changes but the modes: the resource group has the mode that was asked for, and each other group of
-- that project, or of another, the one that it had.
pub record SetsMode (s t : State) (new : NewMode) : Type 0 where
  pub rest : t ≡ record s { modes = t.modes }
  pub its : order_of t.modes new.project new.group ≡ new.order
  pub others : (project : ℕ) (group : List ℕ) → ((project ≡ new.project) × (group ≡ new.group) → ⊥) → order_of t.modes project group ≡ order_of s.modes project group
