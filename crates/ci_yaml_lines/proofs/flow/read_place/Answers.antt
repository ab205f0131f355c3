use Rattle.std.proofs.Common.{◌∷◌, [], Option, subst, false, IfSome, ◌≡◌, ◌∙◌, true, Some, None, sym, ap, option_map}
use Rattle.ci_yaml_lines.specs.declared.quoted.Quoted.{Quoted}
use Rattle.ci_yaml_lines.specs.Prelude.{Stand, texts_in, span_before, behind_end, Y6, is_quote, quoted, drop_blanks, missing, quoted_view, LeastPlace, scalar_spans, value_view}
use Rattle.ci_yaml_lines.proofs.SpansLine.{stand-behind-blanks, stand-null}
use Rattle.ci_yaml_lines.proofs.Views.{view-Null}
use Rattle.ci_yaml_lines.proofs.Parsed.{place-quoted, place-plain}
use Rattle.ci_yaml_lines.proofs.SpansOf.{exact-quoted-place, exact-no-place, unquoted}
use Rattle.ci_yaml_lines.proofs.flow.read_place.Goals as goal

pub returns-in-Some : goal.returns-in-Some
returns-in-Some c =
    let q = c.in-Some.quoted in
    let from = c.drop_blanks-from.result.now in
    let here : is_quote from ≡ true = ap is_quote (sym c.as_bytes.ensures.value) ∙ sym c.if-not-is_quote.ensures in
    let is : Some (quoted_view q) ≡ quoted from = ap (option_map quoted_view) (sym c.in-Some.is) ∙ c.in_ok-quoted.ensures.value in
    record {
      value = c.behind_quoted.ensures.value ∙ place-quoted c.args.text.now from (Some (quoted_view q)) c.drop_blanks-from.ensures here is;
      spans = stand-behind-blanks c.args.source c.args.text.now from (behind_end c.behind_quoted.result.end) (texts_in c.behind_quoted.result.value) c.drop_blanks-from.ensures
          (c.behind_quoted.ensures.spans c.args.source from (subst (λ (o : Option Quoted). IfSome o (λ p. Stand c.args.source from (p.text ∷ []) p.rest.now)) c.in-Some.is c.in_ok-quoted.ensures.spans));
      exact = exact-quoted-place c.args.source c.args.text.now from q c.behind_quoted.result.value c.drop_blanks-from.ensures c.behind_quoted.ensures.exact (ap (λ (p : LeastPlace). p.value) c.behind_quoted.ensures.value) is
          (subst (λ (o : Option Quoted). IfSome o (λ p. p.text.span ≡ span_before c.args.source from p.rest.now)) c.in-Some.is c.in_ok-quoted.ensures.span);
    }

pub returns-in-None : goal.returns-in-None
returns-in-None c =
    let from = c.drop_blanks-from.result.now in
    let here : is_quote from ≡ true = ap is_quote (sym c.as_bytes.ensures.value) ∙ sym c.if-not-is_quote.ensures in
    record {
      value = (λ i. record { value = view-Null i; code = Some Y6; end = missing })
          ∙ place-quoted c.args.text.now from None c.drop_blanks-from.ensures here (ap (option_map quoted_view) (sym c.in-None.is) ∙ c.in_ok-quoted.ensures.value);
      spans = stand-null c.args.source c.args.text.now;
      exact = exact-no-place c.args.source (quoted (drop_blanks c.args.text.now)) (drop_blanks c.args.text.now);
    }

pub returns-then-not-is_quote-clause-value : goal.returns-then-not-is_quote-clause-value
returns-then-not-is_quote-clause-value c =
    let from = c.drop_blanks-from.result.now in
    c.plain_place.ensures.value ∙ place-plain c.args.text.now from c.drop_blanks-from.ensures (ap is_quote (sym c.as_bytes.ensures.value) ∙ sym c.if-not-is_quote.ensures)

pub returns-then-not-is_quote-clause-exact : goal.returns-then-not-is_quote-clause-exact
returns-then-not-is_quote-clause-exact c =
    let from = c.drop_blanks-from.result.now in
    let away : is_quote from ≡ false = ap is_quote (sym c.as_bytes.ensures.value) ∙ sym c.if-not-is_quote.ensures in
    c.plain_place.ensures.exact
    ∙ ap (λ o. scalar_spans c.args.source o (value_view c.plain_place.result.value) (drop_blanks c.args.text.now)) (sym (ap quoted (sym c.drop_blanks-from.ensures) ∙ unquoted from away))
