use Rattle.ci_store.proofs.Inside.{shown_keeps, fails_keeps}
use Rattle.ci_store.proofs.read.rows_inside.Goals as goal

pub returns-in_err-query_all-clause-kept : goal.returns-in_err-query_all-clause-kept
returns-in_err-query_all-clause-kept g c clean inside = fails_keeps _ _ _ _ _ (c.in_err-query_all.ensures.err clean)

pub returns-clause-shown : goal.returns-clause-shown
returns-clause-shown g c clean inside =
    let shown = c.in_ok-query_all.ensures.ok clean in
    ((shown_keeps _ _ _ _ _ inside shown).1, shown)

pub returns-clause-kept : goal.returns-clause-kept
returns-clause-kept g c clean inside = (shown_keeps _ _ _ _ _ inside (c.in_ok-query_all.ensures.ok clean)).0
