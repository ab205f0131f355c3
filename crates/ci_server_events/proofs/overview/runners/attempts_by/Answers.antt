use Rattle.std.proofs.Common.{◌∙◌, sym, ◌==◌}
use Rattle.std.proofs.lemmas.List.Sums.{length-filter}
use Rattle.ci_machine_steps.specs.Prelude.{Attempt}
use Rattle.ci_server_events.proofs.overview.runners.attempts_by.Goals as goal

pub returns : goal.returns
returns c = c.count_by.ensures ∙ sym (length-filter (λ (a : Attempt). a.runner == c.args.runner) c.args.attempts.now)
