use Rattle.std.proofs.Common.{◌≡◌, ◌∙◌, ap, sym, false, ℕ, suc, ◌+◌, length, arith}
use Rattle.ci_yaml_lines.specs.Prelude.{Y9, head_is, when, least, parse_entries, parsed_view, least_parsed, entries_texts}
use Rattle.ci_yaml_lines.proofs.Parsed.{content-parsed}
use Rattle.ci_yaml_lines.proofs.SpansLine.{no-entries, same-entries}
use Rattle.ci_yaml_lines.proofs.SpansStand.{stand-all}
use Rattle.ci_yaml_lines.proofs.SpansOf.{exact-tab, exact-content}
use Rattle.ci_yaml_lines.proofs.line.parse_content.Goals as goal

pub returns-clause-value : goal.returns-clause-value
returns-clause-value c =
    let no : head_is 9 c.args.text.now ≡ false = ap (head_is 9) (sym c.as_bytes.ensures.value) ∙ sym c.if-head_is.ensures in
    let one : length c.args.text.now + 1 ≡ suc (length c.args.text.now) = omega arith in
    c.with_code.ensures.value ∙ content-parsed c.args.column c.args.text.now c.when-mark.result (parsed_view c.in_ok-parsed.parsed) no (c.when-mark.ensures ∙ ap (λ b. least (when b Y9)) c.has_document_mark.ensures)
    (c.in_ok-parsed.ensures.value ∙ ap (λ (n : ℕ). least_parsed (parse_entries n c.args.column c.args.text.now)) one)

pub returns-clause-spans : goal.returns-clause-spans
returns-clause-spans c = same-entries c.args.source c.args.text.now c.with_code.result.entries.items c.in_ok-parsed.parsed.entries.items (ap (λ v. v.items) c.with_code.ensures.entries) c.in_ok-parsed.ensures.spans

pub returns-then-head_is-clause-spans : goal.returns-then-head_is-clause-spans
returns-then-head_is-clause-spans c =
    stand-all c.args.source c.args.text.now c.args.text.now (entries_texts c.new.result.items) (no-entries c.args.source c.args.text.now c.new.result.items c.new.ensures.items)

pub returns-clause-exact : goal.returns-clause-exact
returns-clause-exact c = exact-content c.args.source c.args.text.now c.as_bytes.result.now c.with_code.result.entries.items c.in_ok-parsed.parsed.entries.items (ap (λ v. v.items) c.with_code.ensures.entries) c.as_bytes.ensures.value c.if-head_is.ensures c.in_ok-parsed.ensures.exact

pub returns-then-head_is-clause-exact : goal.returns-then-head_is-clause-exact
returns-then-head_is-clause-exact c = exact-tab c.args.source c.args.text.now c.as_bytes.result.now c.new.result.items c.new.ensures.items c.as_bytes.ensures.value c.if-head_is.ensures
