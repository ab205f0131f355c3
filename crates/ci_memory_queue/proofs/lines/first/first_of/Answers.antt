use Rattle.std.proofs.Common.{Ok, refl, sym, ◌∙◌}
use Rattle.ci_server_lookups.proofs.Loading.{so}
use Rattle.ci_memory_queue.proofs.LineFirsts.{not_found}
use Rattle.ci_memory_queue.proofs.lines.first.first_of.Goals as goal

-- the end is it, and nothing was taken out since
pub returns-then-is_some-clause-keeps : goal.returns-then-is_some-clause-keeps
returns-then-is_some-clause-keeps g c =
    so g.T.Store.honest g.T.Store.holds g.T.Store.leaves _ _ _ _ (Ok tt) tt c.pipeline_in.result c.in_ok-found.found _ refl c.in_ok-found.was c.loop-job.invariant c.pipeline_in.ensures (λ k before at. before)

-- it isn't in the group
pub loop-job-preserved : goal.loop-job-preserved
loop-job-preserved g c =
    so g.T.Store.honest g.T.Store.holds g.T.Store.leaves _ _ _ _ (Ok tt) tt c.pipeline_in.result c.in_ok-found.found _ refl c.in_ok-found.was c.loop-job.invariant c.pipeline_in.ensures
    (λ k before at job pipeline is has.
    c.take_out.ensures.others job
    (not_found c.args.order k c.args.project c.args.group.now c.in-Some.job job pipeline c.in_ok-found.found (sym c.is_some.ensures ∙ c.if-is_some.false) at is)
    (before job pipeline is has))
