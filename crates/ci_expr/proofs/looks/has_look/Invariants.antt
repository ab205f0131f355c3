use Rattle.std.proofs.Common.{◌≡◌, drop}
use Rattle.ci_expr.specs.Prelude.{Look, pattern_view, looks_view, same_look, is_among}
use Rattle.ci_expr.proofs.looks.has_look.Given as goal

abbrev pub invariant-loop-look : goal.invariant-loop-look
invariant-loop-look l =
    let look : Look = record { pattern = pattern_view l.pattern; text = l.text } in
    is_among same_look look (looks_view (drop l.look-index l.looks)) ≡ is_among same_look look (looks_view l.looks)
