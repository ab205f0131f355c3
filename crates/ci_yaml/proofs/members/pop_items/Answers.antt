use Rattle.std.proofs.Common.{◌≡◌, ◌∙◌, ap, sym}
use Rattle.ci_yaml.specs.Prelude.{sequence, mapping, open_kind}
use Rattle.ci_yaml.proofs.Steps.{none-joins}
use Rattle.ci_yaml.proofs.members.pop_items.Goals as goal

pub returns-then-frame-column-clause-other : goal.returns-then-frame-column-clause-other
returns-then-frame-column-clause-other c =
    λ e. none-joins sequence c.args.column c.args.frames.now.items c.pop.new.self.items c.in_ok-frame.frame c.in_ok-frame.ensures.items (λ k at. c.if-frame-column.true at)

pub returns-clause-other : goal.returns-clause-other
returns-clause-other c =
    λ e. none-joins sequence c.args.column c.args.frames.now.items c.pop.new.self.items c.in_ok-frame.frame c.in_ok-frame.ensures.items
    (λ k at. let bad : mapping ≡ sequence = sym (ap open_kind c.in-Pairs.is) ∙ k in absurd cc)
