use Rattle.std.proofs.Common.{◌≡◌, Some, None, string_bytes}
use Rattle.ci_yaml_lines.specs.Prelude.{escape_of}
use Rattle.ci_yaml_lines.proofs.Quotes.{unescaped, misused}
use Rattle.ci_yaml_lines.proofs.quoted.unescape.Goals as goal

pub returns-in_ok-push_str-in-Some-clause-value : goal.returns-in_ok-push_str-in-Some-clause-value
returns-in_ok-push_str-in-Some-clause-value c =
    let e : escape_of c.args.rest.now ≡ Some c.in-Some.meant.now = cc (c.escape.ensures, c.as_bytes.ensures.value, c.in-Some.is) in
    unescaped (string_bytes c.args.words.now) (string_bytes c.push_str.new.self) c.in-Some.meant.now c.args.rest.now c.tail.result.now c.in_ok-push_str-in-Some.ensures.bytes c.tail.ensures e

pub returns-in-None-clause-value : goal.returns-in-None-clause-value
returns-in-None-clause-value c =
    let e : escape_of c.args.rest.now ≡ None = cc (c.escape.ensures, c.as_bytes.ensures.value, c.in-None.is) in
    misused (string_bytes c.args.words.now) c.args.rest.now e
