use Rattle.std.proofs.Common.{◌∙◌, sym, ap, subst, take, ◌+◌}
use Rattle.std.specs.Str.{str_eq_ignore_ascii_case}
use Rattle.ci_http_messages.specs.Prelude.{Shows}
use Rattle.ci_http_messages.proofs.Values.{turn_same, turn_once, turn_twice, values_at}
use Rattle.ci_http_messages.proofs.fields.find_field.Goals as goal
use Rattle.ci_http_messages.proofs.fields.find_field.Goals.{then-is_same_name+in-Absent, else-is_same_name}

pub returns-in_default : goal.returns-in_default
returns-in_default c =
    let test = ap (λ n. str_eq_ignore_ascii_case n c.args.name.now) (sym c.of.ensures) ∙ sym c.is_same_name.ensures ∙ c.if-is_same_name.true in
    turn_twice c.args.name.now c.args.head.now c.args.headers.now c.loop-header.header-index _ c.loop-header.found c.loop-header-test.true test c.in_default.not-Absent c.loop-header.invariant

pub loop-header-preserved : goal.loop-header-preserved
loop-header-preserved c =
    let name = c.args.name.now in
    let head = c.args.head.now in
    let hs = c.args.headers.now in
    let i = c.loop-header.header-index in
    let test = ap (λ n. str_eq_ignore_ascii_case n name) (sym c.of.ensures) ∙ sym c.is_same_name.ensures in
    elim c.if-is_same_name.branch [
      | then-is_same_name+in-Absent w ↦
          let none = subst (λ f. Shows f (values_at name head (take i hs))) w.in-Absent.is c.loop-header.invariant in
          subst (λ f. Shows f (values_at name head (take (i + 1) hs))) (sym w.found-is)
          (turn_once name head hs i _ w.of-in-Absent.result.now c.loop-header-test.true (test ∙ w.if-is_same_name.true) w.of-in-Absent.ensures none)
      | else-is_same_name w ↦
          subst (λ f. Shows f (values_at name head (take (i + 1) hs))) (sym w.found-is)
          (turn_same name head hs i _ c.loop-header.found c.loop-header-test.true (test ∙ w.if-is_same_name.false) c.loop-header.invariant)
    ]
