use Rattle.std.proofs.Common.{ℕ, List, ◌∷◌, ◌++◌, ◌∙◌, sym, ap, cond}
use Rattle.ci_yaml_lines.specs.Prelude.{double, with_words}
use Rattle.ci_yaml_lines.proofs.Quotes.{double-closed}
use Rattle.ci_yaml_lines.proofs.Lent.{lent-some, escaped-ok}
use Rattle.ci_yaml_lines.proofs.quoted.double.Goals as goal

pub returns-then-slash-clause-lent : goal.returns-then-slash-clause-lent
returns-then-slash-clause-lent c =
    let front : List ℕ = c.in-Some.front.now in
    let rest : List ℕ = c.in-Some.rest.now in
    escaped-ok c.args.text.now front rest c.owned.result (c.in-Some.ensures.parts ∙ ap (λ t. front ++ cond t 92 34 ∷ rest) c.if-slash.true)
    (c.owned.ensures.value ∙ c.in_ok-end.ensures ∙ ap (λ w. with_words w (double (92 ∷ rest))) c.in_ok-words.ensures.ok) c.owned.ensures.own

pub returns : goal.returns
returns c =
    let front : List ℕ = c.in-Some.front.now in
    let rest : List ℕ = c.in-Some.rest.now in
    record {
      value = c.lent.ensures.value ∙ sym (double-closed front c.args.text.now rest (c.in-Some.ensures.value ∙ ap (λ t. with_words front (double (cond t 92 34 ∷ rest))) c.if-slash.false));
      lent = lent-some 34 c.args.text.now front rest c.lent.result (c.in-Some.ensures.parts ∙ ap (λ t. front ++ cond t 92 34 ∷ rest) c.if-slash.false) c.lent.ensures.value c.lent.ensures.lent;
    }
