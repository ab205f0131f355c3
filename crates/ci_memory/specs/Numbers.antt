-- The next numbers that are remembered are those of a state.
use Rattle.std.specs.Prelude.{◌≡◌, IfSome}
use Rattle.ci_machine_steps.specs.Prelude.{Numbers}
use Rattle.ci_memory.specs.declared.numbers.NextNumbers.{NextNumbers}

-- each that is remembered is the next of its kind
pub record AreNext (m : NextNumbers) (next : Numbers) : Type 0 where
  pub project : IfSome m.project (λ n. n ≡ next.project)
  pub runner : IfSome m.runner (λ n. n ≡ next.runner)
  pub pipeline : IfSome m.pipeline (λ n. n ≡ next.pipeline)
  pub job : IfSome m.job (λ n. n ≡ next.job)
  pub attempt : IfSome m.attempt (λ n. n ≡ next.attempt)
