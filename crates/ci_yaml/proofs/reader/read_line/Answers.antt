use Rattle.std.proofs.Common.{◌++◌, ◌∙◌, ap, subst}
use Rattle.std.proofs.lemmas.Result.{IfOk-weaker}
use Rattle.ci_yaml.specs.Prelude.{state_view, parsed_view, passed_view, GivesAt, state_texts, entries_texts, spans_of}
use Rattle.ci_yaml_lines.proofs.SpansOf.{spans-append}
use Rattle.ci_yaml.proofs.ReadSteps.{content-is}
use Rattle.ci_yaml.proofs.reader.read_line.Goals as goal

pub returns-clause-value : goal.returns-clause-value
returns-clause-value c = subst (GivesAt passed_view c.args.number c.enter.result) (content-is (state_view c.args.progress) c.args.line.now (parsed_view c.in_ok-parsed.parsed) c.in_ok-parsed.ensures.value) c.enter.ensures.value

pub returns-clause-spans : goal.returns-clause-spans
returns-clause-spans c =
    IfOk-weaker c.enter.result _ _
    (λ p is. record { texts = entries_texts c.in_ok-parsed.parsed.entries.items; stand = c.in_ok-parsed.ensures.spans; parts = is }) c.enter.ensures.spans

pub returns-clause-exact : goal.returns-clause-exact
returns-clause-exact c =
    let before = state_texts c.args.progress in
    IfOk-weaker c.enter.result _ _
    (λ p is. ap spans_of is ∙ spans-append before (entries_texts c.in_ok-parsed.parsed.entries.items)
    ∙ ap (λ ss. spans_of before ++ ss) c.in_ok-parsed.ensures.exact) c.enter.ensures.spans
