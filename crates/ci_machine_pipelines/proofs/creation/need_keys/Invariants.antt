use Rattle.std.proofs.Common.{◌≡◌, [], drop, map}
use Rattle.ci_machine_steps.specs.Prelude.{put_needs}
use Rattle.ci_machine_pipelines.specs.Creations.{need_of_key}
use Rattle.ci_machine_pipelines.proofs.creation.need_keys.Given as goal

-- the pairs that are left, put among those so far
abbrev pub invariant-loop-k : goal.invariant-loop-k
invariant-loop-k l = put_needs l.fn.first (drop l.k l.pairs) (map need_of_key l.keys.keys) ≡ put_needs l.fn.first l.pairs []
