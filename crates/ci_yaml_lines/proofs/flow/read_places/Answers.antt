use Rattle.std.proofs.Common.{◌∙◌, None, ap, rules, [], ◌-◌, ◌+◌, arith, refl, sym}
use Rattle.std.proofs.lemmas.List.{append-nil}
use Rattle.ci_yaml_lines.specs.Prelude.{items_texts, spans_of, places_spans, items_view, end_view, behind_end}
use Rattle.ci_yaml_lines.proofs.SpansOf.{exact-turn, at-first, at-last}
use Rattle.ci_yaml_lines.specs.Line as line
use Rattle.ci_yaml_lines.proofs.Parsed.{list_of, place-next, bracket-end, missing-is, fuel-end}
use Rattle.ci_yaml_lines.proofs.SpansStand.{stand-all}
use Rattle.ci_yaml_lines.proofs.SpansLine.{stand-more, stand-nothing}
use Rattle.ci_yaml_lines.proofs.flow.read_places.Goals as goal

pub places-init : goal.places-init
places-init c = (
  search rules,
  search rules,
  stand-nothing c.args.source c.args.text.now c.new-items.result.items c.new-items.ensures.items,
  at-first (λ k. places_spans c.args.source k c.args.text.now) c.args.n (spans_of (items_texts c.new-items.result.items)) (λ i. spans_of (items_texts (c.new-items.ensures.items i))),
)

pub returns-in-Bracket : goal.returns-in-Bracket
returns-in-Bracket c = record {
  value = bracket-end (items_view c.push.new.self.items) c.least_of-code.result c.in-Bracket.behind.now (c.args.n - (c.places.i + 1))
      ∙ place-next c.places.items.items c.push.new.self.items c.in_ok-value.field-0 c.places.code c.least_of-code.result c.places.rest.now c.args.n c.places.i (line.bracket c.in-Bracket.behind.now)
      (omega arith) c.in_ok-push.ensures.items c.least_of-code.ensures c.in_ok-value.ensures.value (ap end_view c.in-Bracket.is)
      ∙ c.places.invariant.1;
  spans = stand-more c.args.source c.args.text.now c.places.rest.now c.in-Bracket.behind.now c.places.items.items c.push.new.self.items c.in_ok-value.field-0.value c.in_ok-value.field-0.end
      c.places.invariant.2 c.in_ok-push.ensures.items c.in_ok-value.ensures.spans (ap behind_end c.in-Bracket.is);
  exact = sym (append-nil (spans_of (items_texts c.push.new.self.items)))
      ∙ exact-turn c.args.source c.args.n c.places.i c.places.rest.now c.places.items.items c.push.new.self.items c.in_ok-value.field-0 (line.bracket c.in-Bracket.behind.now)
      (omega arith) c.in_ok-push.ensures.items c.in_ok-value.ensures.value (ap end_view c.in-Bracket.is) c.in_ok-value.ensures.exact ∙ c.places.invariant.3;
}

pub returns-in-Missing : goal.returns-in-Missing
returns-in-Missing c = record {
  value = ap (list_of (items_view c.push.new.self.items) None) c.least_of.ensures
      ∙ missing-is (items_view c.push.new.self.items) c.least_of-code.result (c.args.n - (c.places.i + 1))
      ∙ place-next c.places.items.items c.push.new.self.items c.in_ok-value.field-0 c.places.code c.least_of-code.result c.places.rest.now c.args.n c.places.i line.missing
      (omega arith) c.in_ok-push.ensures.items c.least_of-code.ensures c.in_ok-value.ensures.value (ap end_view c.in-Missing.is)
      ∙ c.places.invariant.1;
  spans = stand-more c.args.source c.args.text.now c.places.rest.now [] c.places.items.items c.push.new.self.items c.in_ok-value.field-0.value c.in_ok-value.field-0.end
      c.places.invariant.2 c.in_ok-push.ensures.items c.in_ok-value.ensures.spans (ap behind_end c.in-Missing.is);
  exact = sym (append-nil (spans_of (items_texts c.push.new.self.items)))
      ∙ exact-turn c.args.source c.args.n c.places.i c.places.rest.now c.places.items.items c.push.new.self.items c.in_ok-value.field-0 (line.missing)
      (omega arith) c.in_ok-push.ensures.items c.in_ok-value.ensures.value (ap end_view c.in-Missing.is) c.in_ok-value.ensures.exact ∙ c.places.invariant.3;
}

pub places-preserved : goal.places-preserved
places-preserved c = (
  search rules,
  place-next c.places.items.items c.push.new.self.items c.in_ok-value.field-0 c.places.code c.least_of-code.result c.places.rest.now c.args.n c.places.i (line.comma c.in-Comma.more.now)
      (omega arith) c.in_ok-push.ensures.items c.least_of-code.ensures c.in_ok-value.ensures.value (ap end_view c.in-Comma.is)
      ∙ c.places.invariant.1,
  stand-more c.args.source c.args.text.now c.places.rest.now c.in-Comma.more.now c.places.items.items c.push.new.self.items c.in_ok-value.field-0.value c.in_ok-value.field-0.end
      c.places.invariant.2 c.in_ok-push.ensures.items c.in_ok-value.ensures.spans (ap behind_end c.in-Comma.is),
  exact-turn c.args.source c.args.n c.places.i c.places.rest.now c.places.items.items c.push.new.self.items c.in_ok-value.field-0 (line.comma c.in-Comma.more.now)
      (omega arith) c.in_ok-push.ensures.items c.in_ok-value.ensures.value (ap end_view c.in-Comma.is) c.in_ok-value.ensures.exact ∙ c.places.invariant.3,
)

pub returns : goal.returns
returns c = record {
  value = fuel-end (items_view c.places.items.items) c.places.code c.places.rest.now c.args.n c.places.i (omega arith) ∙ c.places.invariant.1;
  spans = stand-all c.args.source c.args.text.now c.places.rest.now (items_texts c.places.items.items) c.places.invariant.2;
  exact = at-last (λ k. places_spans c.args.source k c.places.rest.now) c.args.n c.places.i _ _ refl (omega arith) c.places.invariant.3;
}
