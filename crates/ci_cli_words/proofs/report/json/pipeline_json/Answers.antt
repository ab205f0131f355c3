use Rattle.std.proofs.Common.{◌∙◌, ap}
use Rattle.serde_json.specs.Written.{has_float}
use Rattle.ci_cli_words.proofs.Floats.{pipeline_has_none}
use Rattle.ci_cli_words.proofs.report.json.pipeline_json.Goals as goal

pub line_of-requires : goal.line_of-requires
line_of-requires c = ap has_float c.in_ok-pipelines.ensures ∙ pipeline_has_none c.args.pipeline.now
