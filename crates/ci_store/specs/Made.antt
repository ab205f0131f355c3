-- The pipelines that were made before a moment.
use Rattle.std.specs.Prelude.{◌<◌, ◌≤◌, ℕ, List, length, filter, nat_lt, All, Contains}
use Rattle.ci_machine.specs.declared.records.Pipeline.{Pipeline}

abbrev pub made_before : ℕ → List Pipeline → List Pipeline
made_before before pipelines = filter (λ p. nat_lt p.created before) pipelines

-- some of them all, at most so many: all of them, where they are fewer
pub record AreSome {A : Type 0} (count : ℕ) (all some : List A) : Type 0 where
  pub few : length some ≤ count
  pub among : All (Contains all) some
  pub whole : length some < count → All (Contains some) all
