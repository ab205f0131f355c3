use Rattle.std.proofs.Common.{◌≡◌, ◌++◌, drop}
use Rattle.ci_machine_steps.specs.Prelude.{words_view}
use Rattle.ci_machine_pipelines.proofs.creation.copies.Given as goal

abbrev pub invariant-loop-text : goal.invariant-loop-text
invariant-loop-text l = l.copies.items ++ words_view (drop l.text-index l.texts) ≡ words_view l.texts
