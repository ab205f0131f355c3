use Rattle.std.proofs.Common.{◌≡◌, ◌∙◌, ap, sym, false, ◌||◌, is_some}
use Rattle.ci_yaml_lines.specs.Prelude.{is_dash, keyed}
use Rattle.ci_yaml_lines.proofs.Parsed.{some-same}
use Rattle.ci_yaml_lines.proofs.line.has_entries.Goals as goal

pub returns : goal.returns
returns c =
    let not_dash : is_dash c.args.text.now ≡ false = ap is_dash (sym c.as_bytes.ensures.value) ∙ sym c.if-is_dash.ensures in
    c.is_some.ensures ∙ some-same c.in_ok-keyed.keyed (keyed c.args.text.now) c.in_ok-keyed.ensures.value ∙ sym (ap (λ b. b || is_some (keyed c.args.text.now)) not_dash)
