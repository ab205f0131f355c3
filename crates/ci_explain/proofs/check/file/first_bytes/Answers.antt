use Rattle.std.proofs.Common.{rules}
use Rattle.ci_explain.proofs.Fitting.{first-taken}
use Rattle.ci_explain.proofs.check.file.first_bytes.Goals as goal

pub returns-clause-bytes : goal.returns-clause-bytes
returns-clause-bytes g c =
    first-taken (g.R.Read.remaining c.args.reader) c.read_to_end.new.buf.items c.new-bytes.result.items c.take.result.limit c.take.ensures.limit c.new-bytes.ensures.items
    (search (rules, c.in_ok-read_to_end.ensures.bytes, c.take.ensures.inner))
