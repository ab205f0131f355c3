-- What is told of a tree: its faults in turn.
use Rattle.std.specs.Prelude.{◌≡◌, ◌≢◌, ℕ, List, [], ◌∷◌, map, Option, MatchOption, Ok, Err, zero, suc}
use Rattle.ci_config.specs.Prelude.{Value, node, Members, no_members, member, Config, Placed, placed, code_view, MeansAt}
use Rattle.ci_explain.specs.declared.place.Found.{Found}
use Rattle.ci_explain.specs.declared.turn.Fault.{Fault}

-- The tree without the entry at the end of a way. A way tells of each list or map on it how many entries stand before the next.
abbrev mutual
  pub without : List ℕ → Value → Value
  without (k ∷ way) (node kind ms) = node kind (without_in ms k way)
  without way v = v

  pub without_in : Members → ℕ → List ℕ → Members
  without_in no_members k way = no_members
  without_in (member name v ms) zero [] = ms
  without_in (member name v ms) zero (j ∷ way) = member name (without (j ∷ way) v) ms
  without_in (member name v ms) (suc k) way = member name v (without_in ms k way)

-- Each fault is the tree's first, and where it says that it is, where the entries of those before it are left out. Behind one that no single
-- entry is to blame for none is told. There is none where the tree configures something.
abbrev pub InTurn : Value → List Placed → Type 0
InTurn v [] = (c : Config) × MeansAt v (Ok c)
InTurn v (t ∷ ts) = MeansAt v (Err t) × (t.way ≡ [] → ts ≡ []) × (t.way ≢ [] → InTurn (without t.way v) ts)

-- ---- the code's

abbrev pub fault_view : Fault → Placed
fault_view f = placed (code_view f.code) f.way.items

-- what is answered is the tree's first fault, or none where it configures something
abbrev pub IsFirst : Value → Option Fault → Type 0
IsFirst v fault = MatchOption fault ((c : Config) × MeansAt v (Ok c)) (λ f. MeansAt v (Err (fault_view f)))

abbrev pub told_view : Found → Placed
told_view f = placed (code_view f.code) f.way.items

abbrev pub tolds_view : List Found → List Placed
tolds_view fs = map told_view fs
