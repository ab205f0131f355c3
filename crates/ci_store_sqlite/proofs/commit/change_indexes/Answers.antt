use Rattle.std.proofs.Common.{rules, ◌≡◌, ◌∙◌, refl, ap, subst, take, get_or}
use Rattle.std.proofs.lemmas.List.{take_all}
use Rattle.ci_store.specs.Prelude.{indexed, indexed_all}
use Rattle.ci_store_sqlite.specs.Prelude.{Makes}
use Rattle.ci_store_sqlite.proofs.Committing.{runs_none, kept_after, follows_more}
use Rattle.ci_store_sqlite.proofs.Applied.{indexed_more}
use Rattle.ci_store_sqlite.proofs.commit.change_indexes.Goals as goal

pub loop-change-init : goal.loop-change-init
loop-change-init g c = (refl, runs_none _ _ (λ k stands. stands))

pub loop-change-preserved : goal.loop-change-preserved
loop-change-preserved g c =
    let one = c.in_ok-change_index.ensures in
    let item = c.change-item.is in
    let low = c.loop-change-test.true in
    let it : get_or c.args.indexes.now c.loop-change.change-index c.change-item.result ≡ c.change-item.result = search rules in
    (one.same_reference ∙ c.loop-change.invariant.0, follows_more _ _ _ c.loop-change.invariant.1 c.change_index.new.tx.conn.now one.kept one.survives one.makes (λ k. indexed_more k c.args.indexes.now c.loop-change.change-index c.change-item.result low ∙ ap (λ x. indexed x (indexed_all (take c.loop-change.change-index c.args.indexes.now) k)) it))

pub returns-in_err-change_index-clause-kept : goal.returns-in_err-change_index-clause-kept
returns-in_err-change_index-clause-kept g c = kept_after c.loop-change.invariant.1 c.change_index.new.tx.conn.now c.change_index.ensures.kept c.change_index.ensures.survives

pub returns-clause-makes : goal.returns-clause-makes
returns-clause-makes g c clean inside = subst (λ all. Makes g.S.Store (indexed_all all) c.args.tx.now.conn.now c.loop-change.tx.conn.now) (take_all _ _ c.loop-change-test.false) (c.loop-change.invariant.1.done clean inside)
