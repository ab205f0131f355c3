use Rattle.std.proofs.Common.{rules, ◌≡◌, ◌∙◌, [], ◌∷◌, subst}
use Rattle.ci_store.specs.Prelude.{Text, bound_value, Changes}
use Rattle.ci_store_sqlite.specs.Prelude.{UPDATE_META, number, counter_key, meta_row}
use Rattle.ci_store_rows.proofs.Meta.{next_sets}
use Rattle.ci_store_sqlite.proofs.make.set_next.Goals as goal

pub returns-then-branch-eq1-clause-makes : goal.returns-then-branch-eq1-clause-makes
returns-then-branch-eq1-clause-makes g c clean inside =
    let old = c.args.tx.now.conn.now in
    let new = c.change.new.tx.conn.now in
    let ran = c.in_ok-change.ensures.changed clean inside in
    let one : c.in_ok-change.field-0 ≡ 1 = search rules in
    let row = (λ i. bound_value (c.to_sql.ensures i) ∷ bound_value (c.in_ok-number.ensures i) ∷ []) ∙ (λ i. Text (c.counter_key.ensures i) ∷ number c.args.next ∷ []) in
    let done = subst (λ n. Changes g.S.Store UPDATE_META.now (meta_row (counter_key c.args.counter) c.args.next) n old new) one (subst (λ row. Changes g.S.Store UPDATE_META.now row c.in_ok-change.field-0 old new) row ran.1) in
    (ran.0, λ k stands. next_sets g.S.Store old new c.args.counter c.args.next k stands done)
