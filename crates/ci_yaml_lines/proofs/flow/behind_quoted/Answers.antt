use Rattle.std.proofs.Common.{◌∙◌, refl, ap, not, ◌++◌}
use Rattle.ci_yaml_lines.specs.Prelude.{Y7, Y9, Y11, when, is_nil, drop_blanks, has_tab_after, least, cut_place}
use Rattle.ci_yaml_lines.specs.Line as line
use Rattle.ci_yaml_lines.proofs.Views.{view-Text}
use Rattle.ci_yaml_lines.proofs.Leasts.{least_two}
use Rattle.ci_yaml_lines.specs.declared.tree.Tree.{Text as TextTree}
use Rattle.ci_yaml_lines.proofs.SpansLine.{stand-behind-quoted}
use Rattle.ci_yaml_lines.proofs.SpansTexts.{texts-Text}
use Rattle.ci_yaml_lines.proofs.flow.behind_quoted.Goals as goal

pub returns : goal.returns
returns c =
    let cut : line.Cut = cut_place 39 c.args.quoted.rest.now in
    let raw_is = ap (λ (x : line.Cut). x.raw) c.cut_place.ensures in
    let codes = least_two _ _ _ (when c.args.quoted.wrong Y7) (when (has_tab_after cut.raw) Y9 ++ when (not (is_nil (drop_blanks cut.raw))) Y11) c.least_of.ensures c.when-escape.ensures
    (least_two _ _ _ _ _ c.least_of-behind.ensures (c.when-tab.ensures ∙ ap (λ b. least (when b Y9)) (c.has_tab_after.ensures ∙ ap has_tab_after (c.as_bytes.ensures.value ∙ raw_is)))
    (c.when-other.ensures ∙ ap (λ b. least (when (not b) Y11)) (c.is_all_blank.ensures ∙ ap (λ x. is_nil (drop_blanks x)) raw_is))) in
    record {
      value = λ i. record { value = view-Text c.args.quoted.text i; code = codes i; end = (c.cut_place.ensures i).end };
      spans = stand-behind-quoted c.args.quoted.text c.args.quoted.rest.now (TextTree c.args.quoted.text) c.cut_place.result refl c.cut_place.ensures;
      exact = texts-Text c.args.quoted.text;
    }
