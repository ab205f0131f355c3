use Rattle.std.proofs.Common.{rules, ◌≡◌, refl, inl, inr, arith, subst}
use Rattle.ci_store.specs.Prelude.{bound, Changes}
use Rattle.ci_store.proofs.write.put.Goals as goal

pub returns-then-is_new-clause-put : goal.returns-then-is_new-clause-put
returns-then-is_new-clause-put g c clean inside =
    let ran = c.in_ok-change.ensures.changed clean inside in
    (ran.0, inr (c.args.tx.now.conn.now, inl refl, c.in_ok-change.field-0, ran.1))

pub returns-clause-put : goal.returns-clause-put
returns-clause-put g c clean inside =
    let ran = c.in_ok-changed.ensures.changed (omega (arith, c.change-3.ensures.survives.clean)) inside in
    let then = c.in_ok-change-2.ensures.changed clean ran.0 in
    let none : c.in_ok-changed.changed ≡ 0 = search rules in
    let before = subst (λ n. Changes g.S.Store c.args.update.now (bound c.args.params.now) n c.args.tx.now.conn.now c.change-2.new.tx.conn.now) none ran.1 in
    (then.0, inr (c.change-2.new.tx.conn.now, inr before, c.in_ok-change-2.field-0, then.1))
