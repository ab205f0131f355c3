use Rattle.std.proofs.Common.{◌≡◌, ◌∙◌, List, [], ◌∷◌, ◌++◌, ap, sym, subst, append_assoc, IfOk}
use Rattle.ci_yaml.specs.Prelude.{Text, given_view, given_texts, state_view, Gives, state_texts}
use Rattle.ci_yaml.proofs.entries.next_pair.Goals as goal

pub returns-clause-value : goal.returns-clause-value
returns-clause-value c = subst (Gives state_view c.with_given.result) (sym (c.in_ok-frames.ensures.value (given_view c.args.given))) c.with_given.ensures.value

pub returns-clause-spans : goal.returns-clause-spans
returns-clause-spans c =
    let before : List Text = state_texts c.args.progress in
    let given : List Text = given_texts c.args.given in
    subst (λ (ts : List Text). IfOk c.with_given.result (λ p. state_texts p ≡ ts)) (ap (λ (ts : List Text). ts ++ given) c.in_ok-frames.ensures.spans ∙ append_assoc before (c.args.name ∷ []) given)
    c.with_given.ensures.spans
