use Rattle.std.proofs.lemmas.Slice.Eq.{bytes_eq-Decides}
use Rattle.std.specs.Str.{str_to_ascii_lowercase}
use Rattle.ci_http_messages.proofs.Values.{same_test}
use Rattle.ci_http_messages.proofs.fields.is_same_name.Goals as goal

pub returns : goal.returns
returns c = same_test _ _ c.eq_ignore_ascii_case.ensures.test (bytes_eq-Decides (str_to_ascii_lowercase c.args.name.now) (str_to_ascii_lowercase c.args.other.now))
