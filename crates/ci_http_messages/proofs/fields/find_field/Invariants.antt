-- What was found so far.
use Rattle.std.proofs.Common.{map, take}
use Rattle.httparse.specs.Spans.{header_bytes}
use Rattle.ci_http_messages.specs.Prelude.{values_of, Shows}
use Rattle.ci_http_messages.proofs.fields.find_field.Given as goal

abbrev pub invariant-loop-header : goal.invariant-loop-header
invariant-loop-header l = Shows l.found (values_of l.name (map (header_bytes l.head) (take l.header-index l.headers)))
