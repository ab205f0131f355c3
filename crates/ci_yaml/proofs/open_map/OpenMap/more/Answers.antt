use Rattle.std.proofs.Common.{◌∙◌, ap, sym}
use Rattle.ci_yaml.specs.Prelude.{has_name, pairs_view, pairs_texts}
use Rattle.ci_yaml.proofs.Keys.{keys-more}
use Rattle.ci_yaml_lines.proofs.Views.{pairs-push}
use Rattle.ci_yaml_lines.proofs.SpansTexts.{pairs_texts-push}
use Rattle.ci_yaml.proofs.open_map.OpenMap.more.Goals as goal

pub invariant_of-result : goal.invariant_of-result
invariant_of-result c = record {
  same_keys = λ k.
      keys-more c.args.self.keys c.insert.new.self c.args.self.pairs.items c.args.key c.args.value c.in_ok-name.name (c.in_ok-name.ensures.ok ∙ c.as_str.ensures) c.in_ok-insert.ensures.updates c.args.self.same_keys k
      ∙ ap (λ ps. has_name k (pairs_view ps)) (sym c.in_ok-push.ensures.items);
}

pub returns-clause-value : goal.returns-clause-value
returns-clause-value c = ap pairs_view c.in_ok-push.ensures.items ∙ pairs-push c.args.self.pairs.items c.args.key c.args.value

pub returns-clause-spans : goal.returns-clause-spans
returns-clause-spans c = ap pairs_texts c.in_ok-push.ensures.items ∙ pairs_texts-push c.args.self.pairs.items c.args.key c.args.value
