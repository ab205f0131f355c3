use Rattle.std.proofs.Common.{◌≡◌, ◌∙◌, ◌∷◌, [], ◌++◌, List, ℕ, ap, sym, refl, Some, option_map, append_assoc}
use Rattle.ci_yaml_lines.specs.Prelude.{quoted, quoted_words_view, span_before}
use Rattle.ci_yaml_lines.specs.Spans.{in_quotes}
use Rattle.ci_yaml_lines.proofs.Lent.{lent-of}
use Rattle.ci_yaml_lines.proofs.Quoting.{quoted-is, shorter}
use Rattle.ci_yaml_lines.proofs.SpansStand.{stand-one}
use Rattle.ci_yaml_lines.proofs.quoted.read_quoted.Goals as goal

-- the scalar stands before what follows it, and is read alone as it is there
pub returns-in-Some-clause-spans : goal.returns-in-Some-clause-spans
returns-in-Some-clause-spans c =
    let q = c.in-Some.field-0 in
    let bs = c.args.text.now in
    let is : Some (quoted_words_view q) ≡ quoted bs = ap (option_map quoted_words_view) (sym c.in-Some.is) ∙ c.in_ok-words.ensures.value in
    let h = shorter bs [] q.rest.now (quoted_words_view q) (quoted-is bs (quoted_words_view q) (sym is)) refl refl in
    let lent = lent-of bs c.in_ok-words.field-0 q c.in-Some.is c.in_ok-words.ensures.lent in
    stand-one c.args.source bs [] h.inner q.rest.now (record { words = q.words; span = c.before-in-Some.result }) h.parts
    (in_quotes q.wrong h.scalar (λ mark between e. lent mark between (h.parts ∙ (λ i. e i ++ q.rest.now) ∙ λ i. mark ∷ append_assoc between (mark ∷ []) q.rest.now i)))
    (c.before-in-Some.ensures ∙ ap (λ (x : List ℕ). span_before c.args.source x q.rest.now) h.parts)
