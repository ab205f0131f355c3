use Rattle.std.proofs.Common.{◌≡◌, ◌∙◌, ap, sym, subst, map, length, rules, arith, true, false, List, [], ◌++◌, ◌+◌, ◌≤◌, None, ◌-◌, IfOk, refl}
use Rattle.ci_yaml_lines.specs.Prelude.{MAX_FILE_BYTES, Dash, is_dash, keyed, entry_view, written_view, item_view, LeastParsed, parsed_view, ColumnsFit, given_view, Stand}
use Rattle.ci_yaml_lines.specs.Prelude.{given_texts, entries_texts, GoOn, ItemStands, ItemHasSpans, spans_of, given_spans, keyed_spans, entries_spans, drop_blanks}
use Rattle.ci_yaml_lines.proofs.Parsed.{stop-turn, value-turn, inner-turn, end-turn, entries-push, start-turn, dash-longer, added}
use Rattle.ci_yaml_lines.specs.declared.tree.Text.{Text}
use Rattle.ci_yaml_lines.proofs.SpansStand.{stand-all}
use Rattle.ci_yaml_lines.proofs.SpansLine.{if-ok, no-entries, dash-item, dash-inner}
use Rattle.ci_yaml_lines.proofs.SpansOf.{at-first, exact-stop, exact-value, exact-inner, exact-dash, at-last, exact-more}
use Rattle.ci_yaml_lines.proofs.line.parse_entries.Goals as goal

pub dashes-init : goal.dashes-init
dashes-init c = (
  search rules,
  c.requires.fits,
  start-turn c.new-entries.result.items c.args.n c.args.column c.args.text.now c.new-entries.ensures.items,
  no-entries c.args.source c.args.text.now c.new-entries.result.items c.new-entries.ensures.items,
  at-first (λ k. entries_spans c.args.source k c.args.text.now) c.args.n (spans_of (entries_texts c.new-entries.result.items)) (λ i. spans_of (entries_texts (c.new-entries.ensures.items i))),
)

pub returns-then-not-is_dash : goal.returns-then-not-is_dash
returns-then-not-is_dash c =
    let es = c.dashes.entries.items in
    let rest = c.dashes.rest.now in
    let no : is_dash rest ≡ false = ap is_dash (sym c.as_bytes.ensures.value) ∙ sym c.if-not-is_dash.ensures in
    record {
      value = subst (λ (x : LeastParsed). IfOk c.keyed_or_bare.result (λ s. parsed_view s ≡ x))
          (stop-turn (map entry_view es) c.args.n c.dashes.i c.dashes.column rest (omega arith) no ∙ c.dashes.invariant.2) c.keyed_or_bare.ensures.value;
      spans = if-ok c.keyed_or_bare.result (λ s. GoOn c.args.source (entries_texts es) rest (entries_texts s.entries.items)) (λ s. Stand c.args.source c.args.text.now (entries_texts s.entries.items) [])
          (λ s goes. goes c.args.text.now c.dashes.invariant.3) c.keyed_or_bare.ensures.spans;
      exact = if-ok c.keyed_or_bare.result (λ s. spans_of (entries_texts s.entries.items) ≡ spans_of (entries_texts es) ++ keyed_spans c.args.source (keyed rest) rest)
          (λ s. spans_of (entries_texts s.entries.items) ≡ entries_spans c.args.source c.args.n c.args.text.now)
          (λ s e. e ∙ ap (λ x. spans_of (entries_texts es) ++ x) (exact-stop c.args.source c.args.n c.dashes.i rest (omega arith) no) ∙ c.dashes.invariant.4) c.keyed_or_bare.ensures.exact;
    }

pub returns-in-Value : goal.returns-in-Value
returns-in-Value c =
    let es = c.dashes.entries.items in
    let ts : List Text = entries_texts es in
    let us : List Text = given_texts c.in-Value.value.given in
    let rest = c.dashes.rest.now in
    let tail = c.tail.result.now in
    let own = entries_spans c.args.source (c.args.n - c.dashes.i) rest in
    let yes : is_dash rest ≡ true = ap is_dash (sym c.as_bytes.ensures.value) ∙ sym c.if-not-is_dash.ensures in
    let is = sym (ap item_view c.in-Value.is) ∙ c.in_ok-columns.ensures.value in
    let stand : Stand c.args.source c.args.text.now (ts ++ ([] ++ us)) [] =
    dash-item c.args.source c.args.text.now rest tail ts c.in-Value.value c.in_ok-columns.field-0 c.dashes.invariant.3 c.tail.ensures c.in_ok-columns.ensures.spans c.in-Value.is in
    let given : spans_of us ≡ given_spans c.args.source (given_view c.in-Value.value.given) (drop_blanks tail) = subst (ItemHasSpans c.args.source tail) c.in-Value.is c.in_ok-columns.ensures.exact in
    let there : spans_of us ≡ own = given ∙ exact-value c.args.source c.args.n c.dashes.i rest tail (written_view c.in-Value.value) (omega arith) yes c.tail.ensures is in
    record {
      value = subst (λ (x : LeastParsed). IfOk c.entry_of.result (λ s. parsed_view s ≡ x))
          (value-turn (map entry_view es) c.args.n c.dashes.i c.dashes.column rest tail (written_view c.in-Value.value) (omega arith) yes c.tail.ensures is ∙ c.dashes.invariant.2) c.entry_of.ensures.value;
      spans = if-ok c.entry_of.result (λ s. entries_texts s.entries.items ≡ ts ++ ([] ++ us)) (λ s. Stand c.args.source c.args.text.now (entries_texts s.entries.items) [])
          (λ s e. subst (λ (xs : List Text). Stand c.args.source c.args.text.now xs []) (sym e) stand) c.entry_of.ensures.spans;
      exact = if-ok c.entry_of.result (λ s. entries_texts s.entries.items ≡ ts ++ us) (λ s. spans_of (entries_texts s.entries.items) ≡ entries_spans c.args.source c.args.n c.args.text.now)
          (λ s e. exact-more ts us (entries_texts s.entries.items) own there e ∙ c.dashes.invariant.4) c.entry_of.ensures.spans;
    }

pub dashes-preserved : goal.dashes-preserved
dashes-preserved c =
    let yes : is_dash c.dashes.rest.now ≡ true = ap is_dash (sym c.as_bytes.ensures.value) ∙ sym c.if-not-is_dash.ensures in
    let fits : c.in-Inner.columns + length c.in-Inner.inner.now ≤ 1 + length c.tail.result.now = subst (ColumnsFit (length c.tail.result.now)) (ap item_view c.in-Inner.is) c.in_ok-columns.ensures.fits in
    let longer : 1 + length c.tail.result.now ≤ length c.dashes.rest.now = dash-longer c.dashes.rest.now c.tail.result.now yes c.tail.ensures in
    let bound : c.dashes.column + length c.dashes.rest.now ≤ MAX_FILE_BYTES = c.dashes.invariant.1 in (
      search rules,
      added c.dashes.column c.in-Inner.columns (length c.in-Inner.inner.now) (length c.tail.result.now) (length c.dashes.rest.now) fits longer bound,
      inner-turn (map entry_view c.dashes.entries.items) (map entry_view c.push.new.self.items) c.args.n c.dashes.i c.dashes.column c.in-Inner.columns c.dashes.rest.now c.tail.result.now c.in-Inner.inner.now (omega arith) yes c.tail.ensures
          (sym (ap item_view c.in-Inner.is) ∙ c.in_ok-columns.ensures.value)
          (ap (map entry_view) c.in_ok-push-in-Inner.ensures.items ∙ entries-push c.dashes.entries.items (record { column = c.dashes.column; head = Dash; given = None }))
          ∙ c.dashes.invariant.2,
      dash-inner c.args.source c.args.text.now c.dashes.rest.now c.tail.result.now c.in-Inner.inner.now c.dashes.entries.items c.push.new.self.items c.dashes.column c.dashes.invariant.3 c.tail.ensures
          (subst (ItemStands c.args.source c.tail.result.now) c.in-Inner.is c.in_ok-columns.ensures.spans) c.in_ok-push-in-Inner.ensures.items,
      exact-dash c.dashes.entries.items c.push.new.self.items c.dashes.column (entries_spans c.args.source (c.args.n - (c.dashes.i + 1)) c.in-Inner.inner.now) c.in_ok-push-in-Inner.ensures.items
          ∙ ap (λ x. spans_of (entries_texts c.dashes.entries.items) ++ x)
          (exact-inner c.args.source c.args.n c.dashes.i c.in-Inner.columns c.dashes.rest.now c.tail.result.now c.in-Inner.inner.now (omega arith) yes c.tail.ensures (sym (ap item_view c.in-Inner.is) ∙ c.in_ok-columns.ensures.value))
          ∙ c.dashes.invariant.4,
    )

pub returns : goal.returns
returns c = record {
  value = end-turn (map entry_view c.dashes.entries.items) c.args.n c.dashes.i c.dashes.column c.dashes.rest.now (omega arith) ∙ c.dashes.invariant.2;
  spans = stand-all c.args.source c.args.text.now c.dashes.rest.now (entries_texts c.dashes.entries.items) c.dashes.invariant.3;
  exact = at-last (λ k. entries_spans c.args.source k c.dashes.rest.now) c.args.n c.dashes.i _ _ refl (omega arith) c.dashes.invariant.4;
}
