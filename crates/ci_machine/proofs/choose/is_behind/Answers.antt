use Rattle.std.proofs.Common.{sym, ap, ◌∙◌}
use Rattle.ci_machine.specs.Prelude.{is_behind}
use Rattle.ci_machine.proofs.Claims.{none_ahead}
use Rattle.ci_machine.proofs.choose.is_behind.Goals as goal

pub returns-in-None : goal.returns-in-None
returns-in-None c =
    sym (none_ahead c.args.waiting.now c.args.project c.args.pipeline c.args.group.now)
    ∙ ap (λ o. is_behind o c.args.waiting.now c.args.project c.args.pipeline c.args.group.now) (sym c.in-None.is ∙ c.order_of.ensures)
