use Rattle.std.proofs.Common.{◌∙◌, refl, ap, subst}
use Rattle.std.proofs.lemmas.List.{take_all}
use Rattle.ci_store.specs.Prelude.{put_rows}
use Rattle.ci_store_sqlite.specs.Prelude.{in_board, Makes}
use Rattle.ci_store_sqlite.proofs.Committing.{runs_none, kept_after, follows_more}
use Rattle.ci_store_sqlite.proofs.Applied.{put_more}
use Rattle.ci_store_sqlite.proofs.commit.put_rows.Goals as goal

pub loop-row-init : goal.loop-row-init
loop-row-init g c = (refl, runs_none _ _ (λ k stands. stands))

pub loop-row-preserved : goal.loop-row-preserved
loop-row-preserved g c =
    let one = c.in_ok-put.ensures in
    (one.same_reference ∙ c.loop-row.invariant.0, follows_more _ _ _ c.loop-row.invariant.1 c.put.new.tx.conn.now one.kept one.survives one.makes (λ k. ap (λ board. record k { board = board }) (put_more k.board c.args.rows.now c.loop-row.row-index _ c.loop-row-test.true)))

pub returns-in_err-put-clause-kept : goal.returns-in_err-put-clause-kept
returns-in_err-put-clause-kept g c = kept_after c.loop-row.invariant.1 c.put.new.tx.conn.now c.put.ensures.kept c.put.ensures.survives

pub returns-clause-makes : goal.returns-clause-makes
returns-clause-makes g c clean inside = subst (λ all. Makes g.S.Store (in_board (put_rows all)) c.args.tx.now.conn.now c.loop-row.tx.conn.now) (take_all _ _ c.loop-row-test.false) (c.loop-row.invariant.1.done clean inside)
