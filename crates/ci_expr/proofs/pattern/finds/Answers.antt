use Rattle.std.proofs.Common.{is_some, sym, ap, ◌∙◌, arith}
use Rattle.regex.proofs.SearchLemmas.{inside_char}
use Rattle.regex.specs.Patterns.{find_str, empty}
use Rattle.ci_expr.proofs.FoundLemmas.{nothing-found, found-here, found-inside}
use Rattle.ci_expr.proofs.pattern.finds.Goals as goal

pub returns-in_default-clause-found : goal.returns-in_default-clause-found
returns-in_default-clause-found c = λ re h.
    let none = nothing-found c.args.nfa.now re h c.as_bytes-bytes.result.now c.loop-from.at c.in_default.ensures.span in
    sym (ap (λ bs. is_some (find_str re bs 0)) (sym c.as_bytes-bytes.ensures.value) ∙ ap is_some (c.loop-from.invariant.2 re h ∙ none))

pub returns-then-is_cut-clause-found : goal.returns-then-is_cut-clause-found
returns-then-is_cut-clause-found c = λ re h.
    let here = found-here c.args.nfa.now re h c.as_bytes-bytes.result.now c.loop-from.at c.in-Some.from c.in-Some.field-0-1 c.in-Some.ensures.span
    (sym c.is_cut.ensures ∙ c.if-is_cut.true) in
    sym (ap (λ bs. is_some (find_str re bs 0)) (sym c.as_bytes-bytes.ensures.value) ∙ ap is_some (c.loop-from.invariant.2 re h) ∙ here)

pub loop-from-smaller : goal.loop-from-smaller
loop-from-smaller c =
    let below = inside_char empty c.as_bytes-bytes.result.now c.in-Some.from (sym c.is_cut.ensures ∙ c.if-is_cut.false) in
    let onwards = c.in-Some.ensures.within.0 in
    omega (arith, below, onwards)

pub loop-from-preserved : goal.loop-from-preserved
loop-from-preserved c =
    let below = inside_char empty c.as_bytes-bytes.result.now c.in-Some.from (sym c.is_cut.ensures ∙ c.if-is_cut.false) in (
      omega (arith, below),
      ap (λ (s : _). s.states) c.find.ensures.room ∙ c.loop-from.invariant.1,
      λ re h. c.loop-from.invariant.2 re h
          ∙ found-inside c.args.nfa.now re h c.as_bytes-bytes.result.now c.loop-from.at c.in-Some.from c.in-Some.field-0-1 c.in-Some.ensures.span
          (sym c.is_cut.ensures ∙ c.if-is_cut.false),
    )
