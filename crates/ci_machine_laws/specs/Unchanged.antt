-- Lines of an earlier program that changed nothing.
use Rattle.std.specs.Prelude.{◌≡◌, ◌⊎◌, List, [], ◌∷◌}
use Rattle.ci_machine_steps.specs.Prelude.{State, empty, Past, Step}

-- Lines, the newest first, lead from the empty state to this one, each of them by a step of the machine, or it left the state as it was, as a
-- refusal does. What such a line was answered is open: so it may be one that this machine wouldn't give.
abbrev pub LeadsOrStays : List Past → State → Type 0
LeadsOrStays [] s = s ≡ empty
LeadsOrStays (p ∷ earlier) s = LeadsOrStays earlier p.before × (Step p.before p.event p.now p.seed p.answer s ⊎ (s ≡ p.before))

-- these are some of the lines, in their order
pub data AreSome : List Past → List Past → Type 0 where
  none : AreSome [] []
  kept : {some lines : List Past} (p : Past) → AreSome some lines → AreSome (p ∷ some) (p ∷ lines)
  left_out : {some lines : List Past} (p : Past) → AreSome some lines → AreSome some (p ∷ lines)
