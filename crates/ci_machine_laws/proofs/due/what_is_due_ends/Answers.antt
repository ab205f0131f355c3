use Rattle.ci_machine_laws.proofs.Prelude.{◌≡◌, arith, has_from_all}
use Rattle.ci_machine_steps.specs.Prelude.{Swept}
use Rattle.ci_machine_laws.specs.Sweeping.{unended}
use Rattle.ci_machine_laws.proofs.Sweeping.{none_left, so_many, ends_by}
use Rattle.ci_machine_laws.proofs.due.what_is_due_ends.Goals as goal

pub returns : goal.returns
returns c = record {
  none_left = λ s t now did is sweeps. none_left now is.0 s t did is.1 sweeps;
  so_many = λ s t now did one is sweeps something. so_many c.one_assignment.ensures now is.0 s t did is.1 one sweeps (λ d k. has_from_all (λ (e : Swept). e ≡ Swept.Nothing → ⊥) d did something k);
  ends = λ s now seed one is. ends_by c.one_assignment.ensures now seed (unended s one.board) is.0 s is.1 one (omega arith);
}
