use Rattle.std.proofs.Common.{◌≡◌, ◌++◌, true, Bool, List, filter, take, ap, sym, subst, ◌∙◌}
use Rattle.ci_expr.specs.Prelude.{answered, Look, same_pattern, look_view, looks_view, same_look, is_among, AreAmong}
use Rattle.ci_expr.proofs.Answering.{pattern-itself, look-itself, among-more, among-filtered, one-of-rest, among-next}
use Rattle.ci_expr.proofs.answers.Answers.of.Goals as goal
use Rattle.ci_expr.proofs.answers.Answers.of.Goals.{then-is_none+in_ok-put_all, else-is_none}

pub loop-look-preserved : goal.loop-look-preserved
loop-look-preserved c =
    let look : Look = look_view c.look-item.result in
    let is_made : Look → Bool = λ x. same_pattern look.pattern x.pattern in
    let before : List Look = answered c.loop-look.answers in
    let made : List Look = filter is_made (looks_view c.args.looks.now) in
    let next = among-next same_look look_view c.args.looks.now c.loop-look.look-index c.look-item.result (answered c.if-is_none.answers) c.loop-look-test.true c.look-item.is in
    elim c.if-is_none.branch [
      | then-is_none+in_ok-put_all w ↦
          let now : answered c.if-is_none.answers ≡ before ++ made = ap answered w.answers-is ∙ w.in_ok-put_all.ensures.answered in
          let one : is_among same_look look made ≡ true =
          among-filtered same_look look_view is_made c.args.looks.now c.loop-look.look-index c.look-item.result c.loop-look-test.true c.look-item.is
          (pattern-itself look.pattern) (look-itself look) in
          next (subst (λ zs. is_among same_look look zs ≡ true) (sym now) (one-of-rest same_look look before made one))
          (subst (λ zs. AreAmong same_look (looks_view (take c.loop-look.look-index c.args.looks.now)) zs) (sym now)
          (among-more same_look (looks_view (take c.loop-look.look-index c.args.looks.now)) before made c.loop-look.invariant))
      | else-is_none w ↦
          next (ap (λ a. is_among same_look look (answered a)) w.answers-is ∙ sym c.find.ensures.answered ∙ w.if-is_none.ensures)
          (subst (λ a. AreAmong same_look (looks_view (take c.loop-look.look-index c.args.looks.now)) (answered a)) (sym w.answers-is) c.loop-look.invariant)
    ]
