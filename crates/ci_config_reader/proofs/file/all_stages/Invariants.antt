use Rattle.std.proofs.Common.{◌≡◌, ◌∷◌, ◌++◌, drop, filter}
use Rattle.ci_config.specs.Prelude.{words_view, pre, is_inner, texts_view}
use Rattle.ci_config_reader.proofs.file.all_stages.Given as goal

abbrev pub invariant-loop-stage : goal.invariant-loop-stage
invariant-loop-stage l = texts_view l.stages ++ filter is_inner (words_view (drop l.stage-index l.listed)) ≡ pre ∷ filter is_inner (words_view l.listed)
