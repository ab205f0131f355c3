use Rattle.std.proofs.Common.{◌≡◌, ◌-◌, ◌≤◌, length, vec_len}
use Rattle.regex_hir.specs.Find.{find_str}
use Rattle.regex_hir.specs.Re.{Re}
use Rattle.regex_compile.specs.Implements.{Implements}
use Rattle.ci_expr.proofs.pattern.finds.Given as goal

abbrev pub invariant-loop-from : goal.invariant-loop-from
invariant-loop-from l =
    (l.at ≤ length l.bytes) × (l.search.states ≡ vec_len l.nfa.states)
    × ((re : Re) → Implements l.nfa re → find_str re l.bytes 0 ≡ find_str re l.bytes l.at)

abbrev pub decreases-loop-from : goal.decreases-loop-from
decreases-loop-from l = length l.bytes - l.at
