use Rattle.std.proofs.Common.{sym, refl, []}
use Rattle.ci_yaml.specs.Prelude.{dash, value_view, texts_in, Items}
use Rattle.ci_yaml.proofs.Steps.{entry_at, item-joins}
use Rattle.ci_yaml.proofs.SpansFrames.{more-texts}
use Rattle.ci_yaml.proofs.members.join_item.Goals as goal

pub returns-in_default-clause-value : goal.returns-in_default-clause-value
returns-in_default-clause-value c = λ g. c.in_default.ensures.other refl c.args.misplaced (value_view c.args.value) [] (entry_at c.args.column dash g) refl

pub returns-clause-value : goal.returns-clause-value
returns-clause-value c =
    λ g. sym (item-joins c.args.misplaced c.args.frames.now.items c.pop_items.new.frames.items c.push.new.self.items c.in-Some.items c.in_ok-items.items c.args.column
    (value_view c.args.value) g
    c.in-Some.ensures.list c.in_ok-items.ensures.value c.in_ok-push.ensures.items)

pub returns-clause-spans : goal.returns-clause-spans
returns-clause-spans c =
    more-texts c.args.frames.now.items c.pop_items.new.frames.items c.push.new.self.items (record { column = c.args.column; members = Items c.in-Some.items })
    (record { column = c.args.column; members = Items c.in_ok-items.items })
    (texts_in c.args.value) c.in-Some.ensures.list c.in_ok-push.ensures.items c.in_ok-items.ensures.spans
