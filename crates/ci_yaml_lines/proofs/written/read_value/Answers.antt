use Rattle.std.proofs.Common.{◌≡◌, ◌∙◌, ap, sym, refl, true, false, subst, Option, ℕ, List, Some, None, option_map, IfSome}
use Rattle.ci_yaml_lines.specs.Prelude.{is_quote, head_is, quoted, listed, header_of, written_of_list, least_written, written_view, LeastWritten, given_view, listed_view}
use Rattle.ci_yaml_lines.specs.Prelude.{given_texts, items_texts, span_before, behind_list, quoted_view, spans_of, node, sequence}
use Rattle.ci_yaml_lines.proofs.Parsed.{list-written, at-list, at-quoted, at-bar}
use Rattle.ci_yaml_lines.proofs.SpansLine.{stand-quoted, stand-same}
use Rattle.ci_yaml_lines.proofs.SpansOf.{unquoted, header-given, exact-quoted, exact-nothing, exact-given}
use Rattle.ci_yaml_lines.specs.declared.quoted.Quoted.{Quoted}
use Rattle.ci_yaml_lines.proofs.written.read_value.Goals as goal

pub returns-in_ok-list : goal.returns-in_ok-list
returns-in_ok-list c =
    let w = c.args.text.now in
    let away : is_quote w ≡ false = ap is_quote (sym c.as_bytes.ensures.value) ∙ sym c.if-is_quote.ensures in
    let here : head_is 91 w ≡ true = ap (head_is 91) (sym c.as_bytes-else-is_quote.ensures.value) ∙ sym c.if-head_is.ensures in
    let value = c.written_list.ensures.value ∙ ap written_of_list c.in_ok-list.ensures.value ∙ list-written (listed w) ∙ ap least_written (at-list w away here) in
    record {
      value = value;
      spans = stand-same c.args.source w (behind_list c.in_ok-list.list.rest) (given_texts c.written_list.result.given) (items_texts c.in_ok-list.list.items.items) c.written_list.ensures.spans c.in_ok-list.ensures.spans;
      exact = exact-given c.args.source w (spans_of (given_texts c.written_list.result.given)) (written_view c.written_list.result) (Some (node sequence (listed_view c.in_ok-list.list).members))
          (ap (λ (x : LeastWritten). x.given) c.written_list.ensures.value) value (ap spans_of c.written_list.ensures.spans ∙ c.in_ok-list.ensures.exact);
    }

pub returns-in-Some : goal.returns-in-Some
returns-in-Some c =
    let w = c.args.text.now in
    let q = c.in-Some.quoted in
    let here : is_quote w ≡ true = ap is_quote (sym c.as_bytes.ensures.value) ∙ sym c.if-is_quote.ensures in
    let is : Some (quoted_view q) ≡ quoted w = ap (option_map quoted_view) (sym c.in-Some.is) ∙ c.in_ok-quoted.ensures.value in
    let there = ap least_written (at-quoted w (Some (quoted_view q)) here is) in
    record {
      value = c.closed.ensures.value ∙ there;
      spans = stand-quoted c.args.source w c.in_ok-quoted.field-0 q (given_texts c.closed.result.given) c.in-Some.is c.in_ok-quoted.ensures.spans c.closed.ensures.spans;
      exact = exact-quoted c.args.source w q (given_texts c.closed.result.given) c.closed.ensures.spans is
          (subst (λ (o : Option Quoted). IfSome o (λ p. p.text.span ≡ span_before c.args.source w p.rest.now)) c.in-Some.is c.in_ok-quoted.ensures.span) there;
    }

pub returns-in-None : goal.returns-in-None
returns-in-None c =
    let w = c.args.text.now in
    let here : is_quote w ≡ true = ap is_quote (sym c.as_bytes.ensures.value) ∙ sym c.if-is_quote.ensures in
    let none : None ≡ quoted w = ap (option_map quoted_view) (sym c.in-None.is) ∙ c.in_ok-quoted.ensures.value in
    let value = c.unclosed.ensures.value ∙ ap least_written (at-quoted w None here none) in
    record {
      value = value;
      spans = c.unclosed.ensures.spans;
      exact = exact-nothing c.args.source w (spans_of (given_texts c.unclosed.result.given)) (written_view c.unclosed.result) (sym none) (ap (λ (x : LeastWritten). x.given) c.unclosed.ensures.value) value c.unclosed.ensures.exact;
    }

pub returns-then-head_is-2 : goal.returns-then-head_is-2
returns-then-head_is-2 c =
    let w = c.args.text.now in
    let away : is_quote w ≡ false = ap is_quote (sym c.as_bytes.ensures.value) ∙ sym c.if-is_quote.ensures in
    let value = c.header_of.ensures.value ∙ ap (λ (x : List ℕ). least_written (header_of x)) c.tail.ensures
    ∙ ap least_written (at-bar w _ _ _ true c.as_bytes.ensures.value c.if-is_quote.ensures c.as_bytes-else-is_quote.ensures.value c.if-head_is.ensures c.as_bytes-else-head_is.ensures.value c.if-head_is-2.ensures) in
    record {
      value = value;
      spans = c.header_of.ensures.spans;
      exact = exact-nothing c.args.source w (spans_of (given_texts c.header_of.result.given)) (written_view c.header_of.result) (unquoted w away) (header-given c.tail.result.now c.header_of.result c.header_of.ensures.value) value c.header_of.ensures.exact;
    }

pub returns-else-head_is-2 : goal.returns-else-head_is-2
returns-else-head_is-2 c =
    let w = c.args.text.now in
    let away : is_quote w ≡ false = ap is_quote (sym c.as_bytes.ensures.value) ∙ sym c.if-is_quote.ensures in
    let value = c.written_plain.ensures.value
    ∙ ap least_written (at-bar w _ _ _ false c.as_bytes.ensures.value c.if-is_quote.ensures c.as_bytes-else-is_quote.ensures.value c.if-head_is.ensures c.as_bytes-else-head_is.ensures.value c.if-head_is-2.ensures) in
    record {
      value = value;
      spans = c.written_plain.ensures.spans;
      exact = exact-given c.args.source w (spans_of (given_texts c.written_plain.result.given)) (written_view c.written_plain.result) (given_view c.written_plain.result.given) refl value (c.written_plain.ensures.exact (unquoted w away));
    }
