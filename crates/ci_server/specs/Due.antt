-- What a server holds once a sweep has found nothing.
use Rattle.std.specs.Prelude.{ℕ}
use Rattle.ci_store.specs.Prelude.{Ghosts}
use Rattle.ci_machine_steps.specs.Prelude.{State, IsReached, NoneIsDue, NoneIsRedundant}
use Rattle.ci_server.specs.Holding.{HoldsIn}
use Rattle.ci_server.specs.Server.{IsHonest}
use Rattle.ci_server.specs.Servers.{ServerOver}

-- the server holds the state, in which no live attempt is due at this moment, and no pipeline is redundant
pub record HoldsNothingDue {S : Type 0} (g : Ghosts S) (now : ℕ) (s : State) (server : ServerOver S) : Type 0 where
  pub holds : HoldsIn g s server.store
  pub none_due : NoneIsDue s now
  pub none_redundant : NoneIsRedundant s

-- each state that a history leads to and that the server held it holds still, and nothing of it is due
abbrev pub FindsNothingDue : {S : Type 0} → Ghosts S → ℕ → ServerOver S → ServerOver S → Type 0
FindsNothingDue g now old new = IsHonest g new.store → (s : State) → IsReached s → HoldsIn g s old.store → HoldsNothingDue g now s new

-- from each state that a history leads to and that the server held it has come to one that a history leads to, of which nothing is due
abbrev pub LeavesNothingDue : {S : Type 0} → Ghosts S → ℕ → ServerOver S → ServerOver S → Type 0
LeavesNothingDue g now old new =
    IsHonest g new.store → (s : State) → IsReached s → HoldsIn g s old.store → (t : State) × IsReached t × HoldsNothingDue g now t new
