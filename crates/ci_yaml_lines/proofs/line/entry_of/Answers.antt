use Rattle.std.proofs.Common.{◌∙◌, ap}
use Rattle.ci_yaml_lines.specs.Prelude.{entries_texts}
use Rattle.ci_yaml_lines.proofs.SpansLine.{entries-texts-push}
use Rattle.ci_yaml_lines.proofs.Parsed.{entries-push}
use Rattle.ci_yaml_lines.proofs.line.entry_of.Goals as goal

pub returns : goal.returns
returns c = record {
  value = simp (c.in_ok-push.ensures.items, entries-push) cc;
  spans = ap entries_texts c.in_ok-push.ensures.items
      ∙ entries-texts-push c.args.entries.items (record { column = c.args.column; head = c.args.head; given = c.args.value.given });
}
