-- Whose turn it is in a resource group with an order.
use Rattle.std.specs.Prelude.{◌≡◌, ℕ, Bool, false, nat_lt, List, Option, Some, None}
use Rattle.ci_machine_steps.specs.Prelude.{GroupOrder, OldestFirst, NewestReadyFirst, WaitingJob, is_behind}

-- where it is the turn of a pipeline, the jobs of this one must wait
abbrev pub is_past : GroupOrder → Option ℕ → ℕ → Bool
is_past order None pipeline = false
is_past OldestFirst (Some turn) pipeline = nat_lt turn pipeline
is_past NewestReadyFirst (Some turn) pipeline = nat_lt pipeline turn

-- It is this pipeline's turn in the group, or nobody's: whether a waiting job goes before those of a pipeline is told by it, of each pipeline.
abbrev pub IsTurn : GroupOrder → List WaitingJob → ℕ → List ℕ → Option ℕ → Type 0
IsTurn order waiting project group turn = (pipeline : ℕ) → is_behind (Some order) waiting project pipeline group ≡ is_past order turn pipeline
