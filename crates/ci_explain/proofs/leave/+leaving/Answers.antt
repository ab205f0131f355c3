use Rattle.std.proofs.Common.{◌∙◌, arith, ap, insert}
use Rattle.ci_config.specs.Prelude.{value_view, items_view}
use Rattle.ci_yaml.specs.Prelude.{pairs_view}
use Rattle.ci_explain.specs.Told.{without}
use Rattle.ci_explain.proofs.Leaving.{items-few, pairs-few, items-out, pairs-out, items-in, pairs-in}
use Rattle.ci_explain.proofs.leave.+leaving.Goals as goal

pub items_left-returns-then-len-index : goal.items_left-returns-then-len-index
items_left-returns-then-len-index t c = items-few c.args.items.items c.args.index c.args.rest.now (omega arith)

pub items_left-returns-then-is_empty : goal.items_left-returns-then-is_empty
items_left-returns-then-is_empty t c =
    ap items_view c.remove-item.ensures.items ∙ items-out c.args.items.items c.args.index c.args.rest.now c.if-is_empty.ensures

pub items_left-returns : goal.items_left-returns
items_left-returns t c =
    ap items_view (c.in_ok-insert.ensures.items ∙ ap (λ xs. insert xs c.args.index c.in_ok-left_out.field-0) c.remove-item.ensures.items)
    ∙ items-in c.args.items.items c.args.index c.args.rest.now c.in_ok-left_out.field-0 c.remove-item.result c.if-is_empty.ensures (omega arith)
    (c.in_ok-left_out.ensures ∙ ap (λ x. without c.args.rest.now (value_view x)) c.remove-item.ensures.value)

pub pairs_left-returns-then-len-index : goal.pairs_left-returns-then-len-index
pairs_left-returns-then-len-index t c = pairs-few c.args.pairs.items c.args.index c.args.rest.now (omega arith)

pub pairs_left-returns-then-is_empty : goal.pairs_left-returns-then-is_empty
pairs_left-returns-then-is_empty t c =
    ap pairs_view c.remove-key.ensures.items ∙ pairs-out c.args.pairs.items c.args.index c.args.rest.now c.if-is_empty.ensures

pub pairs_left-returns : goal.pairs_left-returns
pairs_left-returns t c =
    ap pairs_view (c.in_ok-insert.ensures.items ∙ ap (λ xs. insert xs c.args.index (c.remove-key.result.0, c.in_ok-left_out.field-0)) c.remove-key.ensures.items)
    ∙ pairs-in c.args.pairs.items c.args.index c.args.rest.now (c.remove-key.result.0, c.in_ok-left_out.field-0) c.remove-key.result c.if-is_empty.ensures (omega arith)
    (ap (λ m. m.0) c.remove-key.ensures.value) (c.in_ok-left_out.ensures ∙ ap (λ m. without c.args.rest.now (value_view m.1)) c.remove-key.ensures.value)
