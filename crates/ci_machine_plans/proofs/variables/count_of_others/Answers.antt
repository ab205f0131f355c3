use Rattle.std.proofs.Common.{◌+◌, ◌∙◌, ap, sym, not}
use Rattle.std.specs.Str.{bytes_eq}
use Rattle.std.proofs.lemmas.List.Sums.{length-filter}
use Rattle.ci_machine_steps.specs.Prelude.{Variable}
use Rattle.ci_machine_plans.proofs.variables.count_of_others.Goals as goal

pub returns : goal.returns
returns c = ap (λ n. n + 1) (c.others.ensures ∙ sym (length-filter (λ (v : Variable). not (bytes_eq v.key c.args.name.now)) c.args.variables.now))
