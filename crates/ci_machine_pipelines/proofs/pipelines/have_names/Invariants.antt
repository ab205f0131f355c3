use Rattle.std.proofs.Common.{◌≡◌, drop}
use Rattle.ci_machine_steps.specs.Prelude.{have_names}
use Rattle.ci_machine_pipelines.proofs.pipelines.have_names.Given as goal

-- the names behind those that were looked at decide
abbrev pub invariant-loop-i : goal.invariant-loop-i
invariant-loop-i l = have_names (drop l.i l.variables) ≡ have_names l.variables
