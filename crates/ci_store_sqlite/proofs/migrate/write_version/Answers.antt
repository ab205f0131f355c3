use Rattle.std.proofs.Common.{rules, ◌≡◌, ◌∙◌, [], ◌∷◌, codes, refl, subst}
use Rattle.ci_store.specs.Prelude.{bound_value, state, Changes}
use Rattle.ci_store_sqlite.specs.Prelude.{UPDATE_META, meta_row}
use Rattle.ci_store_sqlite.proofs.Migrates.{writes_version}
use Rattle.ci_store_sqlite.proofs.migrate.write_version.Goals as goal

pub returns-then-branch-eq1-clause-makes : goal.returns-then-branch-eq1-clause-makes
returns-then-branch-eq1-clause-makes g c clean inside =
    let old = c.args.tx.now.conn.now in
    let new = c.change.new.tx.conn.now in
    let ran = c.in_ok-change.ensures.changed clean inside in
    let one : c.in_ok-change.field-0 ≡ 1 = search rules in
    let row = (λ i. bound_value (c.to_sql.ensures i) ∷ bound_value (c.in_ok-number.ensures i) ∷ []) ∙ refl in
    let done = subst (λ n. Changes g.S.Store UPDATE_META.now (meta_row (codes "version") 2) n old new) one (subst (λ row. Changes g.S.Store UPDATE_META.now row c.in_ok-change.field-0 old new) row ran.1) in
    (ran.0, λ k has. writes_version k (state g.S.Store old) (state g.S.Store new) has done)
