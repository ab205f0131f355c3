-- What is seen of a suspect, and what is known once some of them are looked at.
use Rattle.std.specs.Prelude.{◌≡◌, ℕ, List, ◌++◌, Some, None}
use Rattle.ci_machine_steps.specs.Prelude.{Kept, pipeline_at, newer_in}
use Rattle.ci_server_lookups.specs.Prelude.{IsKept}
use Rattle.ci_memory.specs.Alone.{Accounts}
use Rattle.ci_memory.specs.Redundant.{superseded_at, IsLeast}
use Rattle.ci_memory.specs.declared.pipelines.redundant.Seen.{Seen}
use Rattle.ci_memory.specs.declared.pipelines.redundant.Seen.TheVariants.{Alone, Suspect}
use Rattle.ci_memory.specs.declared.pipelines.redundant.Looked.{Looked}

-- what is seen is so: the pipeline has no newer one, or else it is superseded or not
abbrev pub IsSeen : Kept → ℕ → Seen → Type 0
IsSeen k n (Alone p) = (pipeline_at k.state n ≡ Some p) × (newer_in k.state p ≡ None)
IsSeen k n (Suspect found) = IsKept k → found ≡ superseded_at k.state n

-- with the suspects that are left it is right, and of those that were looked at and stay suspects, what was found is the least
pub record IsLooked (k : Kept) (left : List ℕ) (looked : Looked) : Type 0 where
  pub accounts : Accounts (record { alone = looked.alone.items; suspects = looked.suspects.items ++ left }) k
  pub least : IsKept k → IsLeast k.state looked.suspects.items looked.found
