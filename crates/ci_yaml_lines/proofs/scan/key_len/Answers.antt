use Rattle.std.proofs.Common.{length}
use Rattle.ci_yaml_lines.proofs.Scans.{key-on}
use Rattle.ci_yaml_lines.proofs.scan.key_len.Goals as goal

pub scan-preserved : goal.scan-preserved
scan-preserved c =
    let on = key-on c.scan.last c.scan.rest.now (length c.args.bytes.now) c.in-len1-up.len_at_least c.scan.invariant.within c.scan.invariant.value c.stops_key.ensures c.if-stops_key.false in
    record { within = on.0; value = on.1 }
