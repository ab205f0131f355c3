use Rattle.std.proofs.Common.{[], ◌≡◌}
use Rattle.ci_yaml_lines.specs.Prelude.{blanks, drop_blanks, Stand, given_texts, written, written_at, spans_of, given_spans}
use Rattle.ci_yaml_lines.proofs.SpansLine.{stand_drop, stand-no_text, if-ok}
use Rattle.ci_yaml_lines.proofs.SpansOf.{exact-unwritten, exact-written}
use Rattle.ci_yaml_lines.proofs.written.read_written.Goals as goal

pub returns-then-is_only_comment-clause-spans : goal.returns-then-is_only_comment-clause-spans
returns-then-is_only_comment-clause-spans c = stand-no_text c.args.source c.args.text.now

pub returns-clause-spans : goal.returns-clause-spans
returns-clause-spans c =
    if-ok c.read_value.result (λ w. Stand c.args.source c.drop_blanks.result.now (given_texts w.given) []) (λ w. Stand c.args.source c.args.text.now (given_texts w.given) [])
    (λ w stand. stand_drop c.args.source c.args.text.now c.drop_blanks.result.now [] (blanks c.args.text.now) (given_texts w.given) c.drop_blanks.ensures stand) c.read_value.ensures.spans

pub returns-then-is_only_comment-clause-exact : goal.returns-then-is_only_comment-clause-exact
returns-then-is_only_comment-clause-exact c = exact-unwritten c.args.source c.args.last c.args.text.now c.as_bytes.result.now c.as_bytes.ensures.value c.if-is_only_comment.ensures

pub returns-clause-exact : goal.returns-clause-exact
returns-clause-exact c =
    let from = c.drop_blanks.result.now in
    if-ok c.read_value.result (λ w. spans_of (given_texts w.given) ≡ given_spans c.args.source (written_at from).given from)
    (λ w. spans_of (given_texts w.given) ≡ given_spans c.args.source (written c.args.last c.args.text.now).given (drop_blanks c.args.text.now))
    (λ w e. exact-written c.args.source c.args.last c.args.text.now c.as_bytes.result.now from (spans_of (given_texts w.given)) c.as_bytes.ensures.value c.if-is_only_comment.ensures c.drop_blanks.ensures e) c.read_value.ensures.exact
