use Rattle.std.proofs.Common.{◌≡◌, ◌++◌, map}
use Rattle.ci_machine_pipelines.specs.Creations.{need_of_key}
use Rattle.ci_machine_pipelines.proofs.creation.needs_of.Given as goal

-- the needs so far, and those of the keys that are left, are all of them
abbrev pub invariant-loop-key : goal.invariant-loop-key
invariant-loop-key l = l.needs.items ++ map need_of_key l.key-iterator ≡ map need_of_key l.keys.keys
