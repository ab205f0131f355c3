use Rattle.std.proofs.Common.{sym, refl, ◌∙◌}
use Rattle.ci_expr.specs.Prelude.{Look, pattern_view, look_view, looks_view, same_look, is_among}
use Rattle.ci_expr.proofs.Further.{goes_on, finds_here}
use Rattle.ci_expr.proofs.looks.has_look.Goals as goal

pub loop-look-preserved : goal.loop-look-preserved
loop-look-preserved c =
    let look : Look = record { pattern = pattern_view c.args.pattern.now; text = c.args.text.now } in
    goes_on (λ ls. is_among same_look look (looks_view ls)) (λ l. same_look look (look_view l)) (λ _ _. refl) c.args.looks.now c.loop-look-test.true c.look-item.is c.loop-look.invariant
    (sym c.is_look.ensures ∙ c.if-is_look.false)

pub returns-then-is_look : goal.returns-then-is_look
returns-then-is_look c =
    let look : Look = record { pattern = pattern_view c.args.pattern.now; text = c.args.text.now } in
    finds_here (λ ls. is_among same_look look (looks_view ls)) (λ l. same_look look (look_view l)) (λ _ _. refl) c.args.looks.now c.loop-look-test.true c.look-item.is c.loop-look.invariant
    (sym c.is_look.ensures ∙ c.if-is_look.true)
