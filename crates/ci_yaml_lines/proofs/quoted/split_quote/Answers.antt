use Rattle.ci_yaml_lines.specs.Prelude.{single}
use Rattle.ci_yaml_lines.proofs.Quotes.{mark-parts}
use Rattle.ci_yaml_lines.proofs.quoted.split_quote.Goals as goal

pub returns-clause-value : goal.returns-clause-value
returns-clause-value c =
    mark-parts single 39 c.args.text.now c.as_bytes.result.now c.split_around.result.0.now c.split_around.result.1.now c.in_ok-i.i c.as_bytes.ensures.value c.in_ok-i.ensures.value c.in_ok-i.ensures.place.1
    c.split_around.ensures.front c.split_around.ensures.rest
