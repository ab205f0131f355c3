use Rattle.std.proofs.Common.{slice_index}
use Rattle.ci_yaml_lines.specs.Prelude.{double}
use Rattle.ci_yaml_lines.proofs.Quotes.{mark-parts, mark-is}
use Rattle.ci_yaml_lines.proofs.quoted.split_mark.Goals as goal

pub returns-clause-value : goal.returns-clause-value
returns-clause-value c =
    mark-parts double _ c.args.text.now c.as_bytes-bytes.result.now c.split_around.result.0.now c.split_around.result.1.now c.in_ok-i.i c.as_bytes-bytes.ensures.value c.in_ok-i.ensures.value
    (mark-is (slice_index c.as_bytes-bytes.result.now c.in_ok-i.i) c.in_ok-i.ensures.place.1) c.split_around.ensures.front c.split_around.ensures.rest
