-- What is remembered of the pipelines that aren't finished, as plain lists.
use Rattle.std.specs.Prelude.{ℕ, List}
use Rattle.ci_machine_steps.specs.Prelude.{Pipeline}

pub record Known : Type 0 where
  pub alone : List Pipeline  -- there is no newer one of their project, ref and kind
  pub suspects : List ℕ  -- the numbers of those of which there may be one
