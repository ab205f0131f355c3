use Rattle.std.proofs.Common.{◌∙◌, ◌++◌, [], refl, ap, sym}
use Rattle.ci_yaml.specs.Prelude.{given_texts, frames_texts, state_texts, last_text, state_view, frames_view, with_text, spans_of, with_last}
use Rattle.ci_yaml_lines.proofs.SpansTexts.{texts-Text}
use Rattle.ci_yaml.proofs.TextSpans.{last-whole, last-inside}
use Rattle.ci_yaml.proofs.reader.with_text.Goals as goal

pub returns-in-Whole-clause-spans : goal.returns-in-Whole-clause-spans
returns-in-Whole-clause-spans c = last_text [] (state_texts c.args.progress) refl (texts-Text c.args.text)

pub returns-clause-spans : goal.returns-clause-spans
returns-clause-spans c = last_text (frames_texts c.in-Inside.frames.items) (given_texts c.in-Inside.field-1) (ap state_texts c.in-Inside.is) (ap (λ ts. frames_texts c.in-Inside.frames.items ++ ts) (texts-Text c.args.text))

pub returns-in-Start-clause-exact : goal.returns-in-Start-clause-exact
returns-in-Start-clause-exact c = λ words e. sym (ap (λ p. with_last c.args.text.span (spans_of (state_texts p))) c.in-Start.is)

pub returns-in-Whole-clause-exact : goal.returns-in-Whole-clause-exact
returns-in-Whole-clause-exact c = λ words e.
    last-whole c.in-Whole.field-0 c.args.text words (ap state_view (sym c.in-Whole.is) ∙ e ∙ ap (λ p. with_text words (state_view p)) c.in-Whole.is)
    ∙ sym (ap (λ p. with_last c.args.text.span (spans_of (state_texts p))) c.in-Whole.is)

pub returns-clause-exact : goal.returns-clause-exact
returns-clause-exact c = λ words e.
    last-inside (frames_texts c.in-Inside.frames.items) c.in-Inside.field-1 (frames_view c.in-Inside.frames.items) c.args.text words (ap state_view (sym c.in-Inside.is) ∙ e ∙ ap (λ p. with_text words (state_view p)) c.in-Inside.is)
    ∙ sym (ap (λ p. with_last c.args.text.span (spans_of (state_texts p))) c.in-Inside.is)
