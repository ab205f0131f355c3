use Rattle.std.proofs.Common.{◌∙◌, ap}
use Rattle.ci_values.specs.Duration.{duration_of}
use Rattle.ci_values.proofs.Lasting.{duration-lasts, lasts-duration}
use Rattle.ci_values.proofs.seconds.duration.Goals as goal

pub returns-clause-sum : goal.returns-clause-sum
returns-clause-sum c = duration-lasts c.args.text.now c.sum_of.result (c.sum_of.ensures ∙ ap duration_of c.as_bytes.ensures.value)

pub returns-clause-all : goal.returns-clause-all
returns-clause-all c = lasts-duration c.args.text.now c.sum_of.result (c.sum_of.ensures ∙ ap duration_of c.as_bytes.ensures.value)
