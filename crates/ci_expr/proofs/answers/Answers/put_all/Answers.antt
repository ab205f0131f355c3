use Rattle.std.proofs.Common.{◌≡◌, ◌+◌, ◌++◌, ◌∷◌, [], Bool, true, false, List, map, drop, filter, ap, sym, ◌∙◌, if◌then◌else◌}
use Rattle.std.proofs.lemmas.List.{append_assoc, map_push}
use Rattle.ci_expr.specs.Prelude.{answered, Look, pattern_view, same_pattern, look_view, looks_view}
use Rattle.ci_expr.proofs.Answering.{made_next}
use Rattle.ci_expr.proofs.answers.Answers.put_all.Goals as goal
use Rattle.ci_expr.proofs.answers.Answers.put_all.Goals.{then-same_pattern+in_ok-push, else-same_pattern}

pub loop-look-preserved : goal.loop-look-preserved
loop-look-preserved c =
    let is_made : Look → Bool = λ x. same_pattern (pattern_view c.args.pattern.now) x.pattern in
    let look : Look = look_view c.look-item.result in
    let rest : List Look = filter is_made (looks_view (drop (c.loop-look.look-index + 1) c.args.looks.now)) in
    let next = made_next is_made c.args.looks.now c.loop-look.look-index c.look-item.result c.loop-look-test.true c.look-item.is in
    let before : List Look = answered c.loop-look.self in
    let on : (b : Bool) → is_made look ≡ b → before ++ (if b then look ∷ rest else rest) ≡ answered c.args.self.now ++ filter is_made (looks_view c.args.looks.now) =
    λ b e. ap (λ ls. before ++ ls) (sym (next ∙ ap (λ b. if b then look ∷ rest else rest) e)) ∙ c.loop-look.invariant.1 in
    elim c.if-same_pattern.branch [
      | then-same_pattern+in_ok-push w ↦ (
        ap (λ s. s.states) w.search-is ∙ w.is_found_by-found.ensures.states,
        ap (λ ls. ls ++ rest) (ap answered w.self-is ∙ ap (map (λ y. look_view y.look)) w.in_ok-push.ensures.items
            ∙ map_push (λ y. look_view y.look) c.loop-look.self.answers.items _) ∙ append_assoc before (look ∷ []) rest ∙ on true (sym w.if-same_pattern.ensures),
      )
      | else-same_pattern w ↦ (ap (λ s. s.states) w.search-is ∙ c.loop-look.invariant.0, ap (λ a. answered a ++ rest) w.self-is ∙ on false (sym w.if-same_pattern.ensures))
    ]
