use Rattle.std.proofs.Common.{rules, ◌≡◌, ◌∙◌, Err, ap, sym, subst, arith}
use Rattle.std.proofs.lemmas.Result.{err_from_is_err_and}
use Rattle.ci_store.specs.Prelude.{HasCleanDisk, state, cleared, written, Ends}
use Rattle.ci_store_sqlite.specs.Prelude.{LeavesOnly, LeavesEither}
use Rattle.ci_store_sqlite.proofs.Looking.{ends, ends_unbegun}
use Rattle.ci_store_sqlite.proofs.tables.TablesStore.commit.Goals as goal

pub returns-clause-ends : goal.returns-clause-ends
returns-clause-ends g c clean k only =
    let mid = c.first_new_job.new.conn in
    let new = c.commit.new.conn in
    let here = subst (λ tables. LeavesOnly g.S.Store k tables) (sym c.self.view_is) only in
    let early : HasCleanDisk (state g.S.Store mid) = omega (arith, clean, c.commit.ensures.clean) in
    let read = c.in_ok-first_new.ensures.kept early k here in
    let gone : c.as_slice-2.result.now ≡ c.args.delta.cleared = search rules in
    let is : c.as_slice-3.result.now ≡ c.args.delta.changes = search rules in
    let are : c.as_slice-4.result.now ≡ c.args.delta.rows = search rules in
    let last : c.as_slice-5.result.now ≡ c.args.delta.indexes = search rules in
    let whole : written c.as_slice-3.result.now c.as_slice-4.result.now c.as_slice-5.result.now (cleared c.as_slice-2.result.now k) ≡ written c.args.delta.changes c.args.delta.rows c.args.delta.indexes (cleared c.args.delta.cleared k) =
    (λ i. written (is i) (are i) (last i) (cleared (gone i) k)) in
    subst (λ next. Ends c.commit.result (LeavesOnly g.S.Store next new) (LeavesOnly g.S.Store k new) (LeavesEither g.S.Store k next new)) whole
    (ends g.S.Store mid new c.commit.result (λ k. written c.as_slice-3.result.now c.as_slice-4.result.now c.as_slice-5.result.now (cleared c.as_slice-2.result.now k)) k read (c.commit.ensures.done clean) (λ is. c.commit.ensures.memory clean is k read)
    (c.commit.ensures.left clean k read))

pub returns-in_err-first_new-clause-ends : goal.returns-in_err-first_new-clause-ends
returns-in_err-first_new-clause-ends g c clean k only =
    let here = subst (λ tables. LeavesOnly g.S.Store k tables) (sym c.self.view_is) only in
    let p = err_from_is_err_and c.from_residual.result c.from_residual.ensures.1 in
    ends_unbegun g.S.Store _ c.first_new_job.new.conn _ _ (λ k. written c.args.delta.changes c.args.delta.rows c.args.delta.indexes (cleared c.args.delta.cleared k)) k c.from_residual.result (p.1 ∙ ap Err p.2) c.in_err-first_new.ensures clean here
