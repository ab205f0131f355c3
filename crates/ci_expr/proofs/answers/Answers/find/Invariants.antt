use Rattle.std.proofs.Common.{◌≡◌, drop, map}
use Rattle.ci_expr.specs.Prelude.{Look, pattern_view, look_view, same_look, is_among}
use Rattle.ci_expr.proofs.answers.Answers.find.Given as goal

abbrev pub invariant-loop-answer : goal.invariant-loop-answer
invariant-loop-answer l =
    let look : Look = record { pattern = pattern_view l.fn.pattern; text = l.fn.text } in
    is_among same_look look (map (λ x. look_view x.look) (drop l.answer-index l.fn.self.answers.items))
    ≡ is_among same_look look (map (λ x. look_view x.look) l.fn.self.answers.items)
