use Rattle.std.proofs.Common.{◌∙◌, ap}
use Rattle.ci_yaml.specs.Prelude.{items_view, items_texts}
use Rattle.ci_yaml_lines.proofs.Views.{items-push}
use Rattle.ci_yaml_lines.proofs.SpansTexts.{items_texts-push}
use Rattle.ci_yaml.proofs.nodes.more_items.Goals as goal

pub returns-clause-value : goal.returns-clause-value
returns-clause-value c = ap items_view c.in_ok-push.ensures.items ∙ items-push c.args.items.items c.args.value

pub returns-clause-spans : goal.returns-clause-spans
returns-clause-spans c = ap items_texts c.in_ok-push.ensures.items ∙ items_texts-push c.args.items.items c.args.value
