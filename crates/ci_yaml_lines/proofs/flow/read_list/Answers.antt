use Rattle.ci_yaml_lines.proofs.SpansLine.{stand-empty, list-within, if-ok}
use Rattle.ci_yaml_lines.proofs.SpansOf.{list-by}
use Rattle.std.proofs.Common.{◌≡◌, ◌∙◌, length, true, false}
use Rattle.ci_yaml_lines.specs.Prelude.{items_texts, spans_of, places_spans, list_spans}
use Rattle.ci_yaml_lines.proofs.flow.read_list.Goals as goal

pub returns-then-head_is-clause-spans : goal.returns-then-head_is-clause-spans
returns-then-head_is-clause-spans c =
    stand-empty c.args.source c.args.text.now c.tail-inner.result.now c.drop_blanks-from.result.now c.tail.result.now c.new.result.items c.tail-inner.ensures c.drop_blanks-from.ensures c.tail.ensures c.new.ensures.items

pub returns-clause-spans : goal.returns-clause-spans
returns-clause-spans c = list-within c.args.source c.args.text.now c.tail-inner.result.now c.tail-inner.ensures c.read_places.result c.read_places.ensures.spans

pub returns-then-head_is-clause-exact : goal.returns-then-head_is-clause-exact
returns-then-head_is-clause-exact c =
    (λ i. spans_of (items_texts (c.new.ensures.items i)))
    ∙ list-by c.args.source c.args.text.now c.tail-inner.result.now c.drop_blanks-from.result.now c.as_bytes.result.now true c.tail-inner.ensures c.drop_blanks-from.ensures c.as_bytes.ensures.value c.if-head_is.ensures

pub returns-clause-exact : goal.returns-clause-exact
returns-clause-exact c =
    if-ok c.read_places.result (λ l. spans_of (items_texts l.items.items) ≡ places_spans c.args.source (length c.args.text.now) c.tail-inner.result.now) (λ l. spans_of (items_texts l.items.items) ≡ list_spans c.args.source c.args.text.now)
    (λ l e. e ∙ list-by c.args.source c.args.text.now c.tail-inner.result.now c.drop_blanks-from.result.now c.as_bytes.result.now false c.tail-inner.ensures c.drop_blanks-from.ensures c.as_bytes.ensures.value c.if-head_is.ensures) c.read_places.ensures.exact
