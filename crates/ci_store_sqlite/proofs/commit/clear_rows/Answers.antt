use Rattle.std.proofs.Common.{◌∙◌, refl, subst}
use Rattle.std.proofs.lemmas.List.{take_all}
use Rattle.ci_store.specs.Prelude.{cleared}
use Rattle.ci_store_sqlite.specs.Prelude.{Makes}
use Rattle.ci_store_sqlite.proofs.Committing.{runs_none, kept_after, follows_more}
use Rattle.ci_store_sqlite.proofs.Applied.{cleared_more}
use Rattle.ci_store_sqlite.proofs.commit.clear_rows.Goals as goal

pub loop-job-init : goal.loop-job-init
loop-job-init g c = (refl, runs_none _ _ (λ k stands. stands))

pub loop-job-preserved : goal.loop-job-preserved
loop-job-preserved g c =
    let one = c.in_ok-clear_row.ensures in
    (one.same_reference ∙ c.loop-job.invariant.0, follows_more _ _ _ c.loop-job.invariant.1 c.clear_row.new.tx.conn.now one.kept one.survives one.makes (λ k. cleared_more k c.args.jobs.now c.loop-job.job-index _ c.loop-job-test.true))

pub returns-in_err-clear_row-clause-kept : goal.returns-in_err-clear_row-clause-kept
returns-in_err-clear_row-clause-kept g c = kept_after c.loop-job.invariant.1 c.clear_row.new.tx.conn.now c.clear_row.ensures.kept c.clear_row.ensures.survives

pub returns-clause-makes : goal.returns-clause-makes
returns-clause-makes g c clean inside = subst (λ all. Makes g.S.Store (cleared all) c.args.tx.now.conn.now c.loop-job.tx.conn.now) (take_all _ _ c.loop-job-test.false) (c.loop-job.invariant.1.done clean inside)
