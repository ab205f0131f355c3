use Rattle.std.proofs.Common.{[], ◌≡◌, ◌∙◌, ℕ, ◌+◌, true, false, drop, refl, sym, ap}
use Rattle.ci_yaml_lines.specs.Prelude.{spaces, only_comment, head_is, least_item}
use Rattle.ci_yaml_lines.proofs.SpansStand.{stand-none}
use Rattle.ci_yaml_lines.proofs.SpansLine.{stand_drop, stand-no_text}
use Rattle.ci_yaml_lines.specs.View.{inner, value}
use Rattle.ci_yaml_lines.proofs.Parsed.{item-by, item-more}
use Rattle.ci_yaml_lines.proofs.SpansOf.{exact-item}
use Rattle.ci_yaml_lines.proofs.line.read_item.Goals as goal

pub returns-then-is_only_comment-clause-spans : goal.returns-then-is_only_comment-clause-spans
returns-then-is_only_comment-clause-spans c = stand-no_text c.args.source c.args.text.now

pub returns-then-head_is-clause-spans : goal.returns-then-head_is-clause-spans
returns-then-head_is-clause-spans c = stand-no_text c.args.source c.args.text.now

pub returns-then-branch-clause-spans : goal.returns-then-branch-clause-spans
returns-then-branch-clause-spans c =
    let inner = c.drop_spaces-inner.result.now in
    stand_drop c.args.source c.args.text.now inner inner (spaces c.args.text.now) [] c.drop_spaces-inner.ensures (stand-none c.args.source inner)

pub returns-then-is_only_comment-clause-value : goal.returns-then-is_only_comment-clause-value
returns-then-is_only_comment-clause-value c =
    let here : only_comment 45 c.args.text.now ≡ true = ap (only_comment 45) (sym c.as_bytes-2.ensures.value) ∙ sym c.if-is_only_comment.ensures in
    ap least_item (sym (item-by c.args.text.now true _ _ here refl refl))

pub returns-then-head_is-clause-value : goal.returns-then-head_is-clause-value
returns-then-head_is-clause-value c =
    let r = c.args.text.now in
    let some : only_comment 45 r ≡ false = ap (only_comment 45) (sym c.as_bytes-2.ensures.value) ∙ sym c.if-is_only_comment.ensures in
    let here : head_is 9 (drop (spaces r) r) ≡ true = ap (head_is 9) (sym (c.as_bytes-3.ensures.value ∙ c.drop_spaces-inner.ensures)) ∙ sym c.if-head_is.ensures in
    ap least_item (sym (item-by r false true _ some here refl))

pub returns-then-branch-clause-value : goal.returns-then-branch-clause-value
returns-then-branch-clause-value c =
    let r = c.args.text.now in
    ap (λ (n : ℕ). inner (1 + n) c.drop_spaces-inner.result.now) (c.spaces-n.ensures ∙ ap spaces c.as_bytes.ensures.value) ∙ ap (inner (1 + spaces r)) c.drop_spaces-inner.ensures
    ∙ ap least_item (sym (item-more r _ _ c.drop_spaces-inner.result.now true c.as_bytes-2.ensures.value c.if-is_only_comment.ensures c.as_bytes-3.ensures.value c.if-head_is.ensures c.drop_spaces-inner.ensures
    (sym c.if-branch.true ∙ c.in_ok-has_entries.ensures)))

pub returns-in_ok-value-clause-value : goal.returns-in_ok-value-clause-value
returns-in_ok-value-clause-value c =
    ap value c.in_ok-value.ensures.value
    ∙ ap least_item (sym (item-more c.args.text.now _ _ c.drop_spaces-inner.result.now false c.as_bytes-2.ensures.value c.if-is_only_comment.ensures c.as_bytes-3.ensures.value c.if-head_is.ensures c.drop_spaces-inner.ensures
    (sym c.if-branch.false ∙ c.in_ok-has_entries.ensures)))

pub returns-in_ok-value-clause-exact : goal.returns-in_ok-value-clause-exact
returns-in_ok-value-clause-exact c = exact-item c.args.source c.args.text.now c.in_ok-value.value c.in_ok-value.ensures.value c.in_ok-value.ensures.exact
