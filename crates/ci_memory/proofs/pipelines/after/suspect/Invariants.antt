use Rattle.std.proofs.Common.{◌≡◌, ◌++◌, map, filter, take}
use Rattle.ci_memory.specs.Changes.{is_unsettled}
use Rattle.ci_memory.proofs.pipelines.after.suspect.Given as goal

-- those so far that are unsettled are suspects
abbrev pub invariant-loop-one : goal.invariant-loop-one
invariant-loop-one l = l.suspects.items ≡ l.fn.suspects.items ++ map (λ p. p.id) (filter (is_unsettled l.pipeline) (take l.one-index l.alone))
