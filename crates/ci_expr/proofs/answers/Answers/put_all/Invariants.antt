use Rattle.std.proofs.Common.{◌≡◌, ◌++◌, drop, filter, vec_len}
use Rattle.ci_expr.specs.Prelude.{answered, Look, pattern_view, same_pattern, looks_view}
use Rattle.ci_expr.proofs.answers.Answers.put_all.Given as goal

abbrev pub invariant-loop-look : goal.invariant-loop-look
invariant-loop-look l =
    let is_made = λ (x : Look). same_pattern (pattern_view l.fn.pattern) x.pattern in
    (l.search.states ≡ vec_len l.nfa.states)
    × (answered l.self ++ filter is_made (looks_view (drop l.look-index l.looks)) ≡ answered l.fn.self ++ filter is_made (looks_view l.looks))
