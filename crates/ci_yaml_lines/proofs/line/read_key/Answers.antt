use Rattle.ci_yaml_lines.proofs.SpansLine.{stand-quoted-key}
use Rattle.ci_yaml_lines.proofs.SpansOf.{exact-quoted-key, exact-plain-key, unquoted}
use Rattle.std.proofs.Common.{◌≡◌, ◌∙◌, ap, sym, false}
use Rattle.ci_yaml_lines.specs.Prelude.{is_quote}
use Rattle.ci_yaml_lines.proofs.line.read_key.Goals as goal

pub returns-in_ok-quoted-clause-spans : goal.returns-in_ok-quoted-clause-spans
returns-in_ok-quoted-clause-spans c = stand-quoted-key c.args.source c.args.text.now c.in_ok-quoted.quoted c.quoted_key.result c.in_ok-quoted.ensures.spans c.quoted_key.ensures.spans

pub returns-in_ok-quoted-clause-exact : goal.returns-in_ok-quoted-clause-exact
returns-in_ok-quoted-clause-exact c = exact-quoted-key c.args.source c.args.text.now c.in_ok-quoted.quoted c.quoted_key.result c.in_ok-quoted.ensures.value c.in_ok-quoted.ensures.span c.quoted_key.ensures.spans

pub returns-else-is_forbidden-clause-exact : goal.returns-else-is_forbidden-clause-exact
returns-else-is_forbidden-clause-exact c =
    let away : is_quote c.args.text.now ≡ false = ap is_quote (sym c.as_bytes.ensures.value) ∙ sym c.if-is_quote.ensures in
    exact-plain-key c.args.source c.args.text.now c.plain_key.result (unquoted c.args.text.now away) c.plain_key.ensures.exact
