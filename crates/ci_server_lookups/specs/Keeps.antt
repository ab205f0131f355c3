-- What a store keeps where the machine has written it.
use Rattle.ci_machine_steps.specs.Prelude.{Kept, IsSound, AreBoard, AreIndexes}

-- what is kept is a state that the machine may come to, with what is beside it
pub record IsKept (k : Kept) : Type 0 where
  pub sound : IsSound k.state
  pub are_board : AreBoard k.state k.board
  pub are_indexes : AreIndexes k

-- the store holds this, and it is what the machine may come to
abbrev pub HoldsKept : {T : Type 0} → (T → Kept → Type 0) → T → Kept → Type 0
HoldsKept holds t k = holds t k × IsKept k
