use Rattle.std.proofs.Common.{Contains, List, ℕ, sym, subst}
use Rattle.ci_memory_queue.proofs.notes.notes_of.Goals as goal

pub returns-clause-newest : goal.returns-clause-newest
returns-clause-newest c = λ n has. c.greatest-newest.ensures n (subst (λ (l : List ℕ). Contains l n) (sym c.as_slice.ensures.value) has)
