use Rattle.std.proofs.Common.{◌∷◌, ◌∙◌, sym, ap}
use Rattle.ci_yaml_lines.specs.Prelude.{head_is, single, with_words}
use Rattle.ci_yaml_lines.proofs.Quotes.{after-quote}
use Rattle.ci_yaml_lines.proofs.Lent.{lent-some, doubled-ok}
use Rattle.ci_yaml_lines.proofs.quoted.single.Goals as goal

pub returns-then-head_is-clause-lent : goal.returns-then-head_is-clause-lent
returns-then-head_is-clause-lent c =
    let rest = c.in-Some.rest.now in
    doubled-ok c.args.text.now c.in-Some.front.now rest c.owned.result c.in-Some.ensures.parts (ap (head_is 39) (sym c.as_bytes.ensures.value) ∙ sym c.if-head_is.ensures)
    (c.owned.ensures.value ∙ c.in_ok-end.ensures ∙ ap (λ w. with_words w (single (39 ∷ rest))) c.in_ok-words.ensures.ok) c.owned.ensures.own

pub returns : goal.returns
returns c =
    let front = c.in-Some.front.now in
    let rest = c.in-Some.rest.now in
    record {
      value = c.lent.ensures.value ∙ sym (c.in-Some.ensures.value ∙ after-quote front rest (ap (head_is 39) (sym c.as_bytes.ensures.value) ∙ sym c.if-head_is.ensures));
      lent = lent-some 39 c.args.text.now front rest c.lent.result c.in-Some.ensures.parts c.lent.ensures.value c.lent.ensures.lent;
    }
