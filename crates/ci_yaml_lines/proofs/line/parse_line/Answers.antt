use Rattle.std.proofs.Common.{◌≡◌, ◌∙◌, ◌+◌, ap, sym, arith, length, drop}
use Rattle.std.proofs.lemmas.List.Sums.{prefix_len-le-length}
use Rattle.ci_yaml_lines.specs.Prelude.{Y9, trim_end, when, least, spaces, is_space, parse_content, parsed_view, least_parsed, entries_texts, SourceLine}
use Rattle.ci_yaml_lines.proofs.Parsed.{line-fits, line-parsed}
use Rattle.ci_yaml_lines.proofs.SpansLine.{no-entries, same-entries, line-stands}
use Rattle.ci_yaml_lines.proofs.SpansStand.{stand-all}
use Rattle.ci_yaml_lines.proofs.SpansOf.{exact-skipped, exact-line}
use Rattle.ci_yaml_lines.proofs.line.parse_line.Goals as goal

pub overflow_cast-column : goal.overflow_cast-column
overflow_cast-column c =
    let e : c.spaces-column.result ≡ spaces c.args.line.now = c.spaces-column.ensures ∙ ap spaces c.as_bytes.ensures.value in
    omega (arith, prefix_len-le-length is_space c.args.line.now)

pub parse_content-requires : goal.parse_content-requires
parse_content-requires c =
    let e : c.spaces-column.result ≡ spaces c.args.line.now = c.spaces-column.ensures ∙ ap spaces c.as_bytes.ensures.value in
    let t : c.trim_end-text.result.now ≡ trim_end (drop (spaces c.args.line.now) c.args.line.now) = c.trim_end-text.ensures ∙ ap trim_end c.drop_spaces.ensures in
    let l : length c.trim_end-text.result.now ≡ length (trim_end (drop (spaces c.args.line.now) c.args.line.now)) = ap length t in
    record { fits = omega (arith, line-fits c.args.line.now c.requires.fits) }

pub returns : goal.returns
returns c =
    let l = c.args.line.now in
    let text = c.trim_end-text.result.now in
    let all = c.with_code.result.entries.items in
    let own = c.in_ok-parsed.parsed.entries.items in
    let same : all ≡ own = ap (λ v. v.items) c.with_code.ensures.entries in
    let column : c.spaces-column.result ≡ spaces l = c.spaces-column.ensures ∙ ap spaces c.as_bytes.ensures.value in
    let t : text ≡ trim_end (drop (spaces l) l) = c.trim_end-text.ensures ∙ ap trim_end c.drop_spaces.ensures in
    record {
      value = c.with_code.ensures.value ∙ line-parsed l c.when-form.result (parsed_view c.in_ok-parsed.parsed) (sym c.if-is_skipped.ensures) (c.when-form.ensures ∙ ap (λ b. least (when b Y9)) c.has_excluded.ensures)
          (c.in_ok-parsed.ensures.value ∙ λ i. least_parsed (parse_content (column i) (t i)));
      spans = line-stands c.args.number c.spaces-column.result l text (entries_texts all) column t
          (same-entries (record { line = c.args.number; end = c.spaces-column.result + length text }) text all own same c.in_ok-parsed.ensures.spans);
      exact = exact-line c.args.number c.spaces-column.result l text all own same column t c.if-is_skipped.ensures c.in_ok-parsed.ensures.exact;
    }

pub returns-then-is_skipped-clause-spans : goal.returns-then-is_skipped-clause-spans
returns-then-is_skipped-clause-spans c =
    let at : SourceLine = record { line = c.args.number; end = length c.args.line.now } in
    stand-all at c.args.line.now c.args.line.now (entries_texts c.new.result.items) (no-entries at c.args.line.now c.new.result.items c.new.ensures.items)

pub returns-then-is_skipped-clause-exact : goal.returns-then-is_skipped-clause-exact
returns-then-is_skipped-clause-exact c = exact-skipped c.args.number c.args.line.now c.new.result.items c.new.ensures.items c.if-is_skipped.ensures
