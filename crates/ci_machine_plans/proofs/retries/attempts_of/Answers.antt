use Rattle.std.proofs.Common.{◌∙◌, sym, ◌==◌}
use Rattle.std.proofs.lemmas.List.Sums.{length-filter}
use Rattle.ci_machine_steps.specs.Prelude.{Attempt}
use Rattle.ci_machine_plans.proofs.retries.attempts_of.Goals as goal

pub returns : goal.returns
returns c = c.count_of.ensures ∙ sym (length-filter (λ (a : Attempt). a.job == c.args.job) c.args.attempts.now)
