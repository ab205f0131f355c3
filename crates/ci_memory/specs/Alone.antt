-- What is remembered of the pipelines that aren't finished is right for what a store keeps: it covers them.
use Rattle.std.specs.Prelude.{◌≡◌, ◌⊎◌, ℕ, map, All, Contains, Option, Some, None, IfSome}
use Rattle.ci_machine_steps.specs.Prelude.{Pipeline, Kept, pipeline_at, newer_in}
use Rattle.ci_memory.specs.Known.{Known}

-- a pipeline with this number isn't finished
abbrev pub IsOpen : Kept → ℕ → Type 0
IsOpen k n = Contains (map (λ u. u.pipeline) k.unfinished) n

-- the pipeline is there, isn't finished, and has no newer one of its project, ref and kind
pub record IsAlone (k : Kept) (p : Pipeline) : Type 0 where
  pub there : pipeline_at k.state p.id ≡ Some p
  pub newest : newer_in k.state p ≡ None
  pub unfinished : IsOpen k p.id

-- each that isn't finished is remembered, as one that is alone or as a suspect; and no other is
pub record Accounts (known : Known) (k : Kept) : Type 0 where
  pub covered : All (λ u. Contains known.suspects u.pipeline ⊎ Contains (map (λ p. p.id) known.alone) u.pipeline) k.unfinished
  pub alone : All (IsAlone k) known.alone
  pub suspects : All (IsOpen k) known.suspects

-- to remember nothing is right
abbrev pub IsRight : Option Known → Kept → Type 0
IsRight remembered k = IfSome remembered (λ known. Accounts known k)
