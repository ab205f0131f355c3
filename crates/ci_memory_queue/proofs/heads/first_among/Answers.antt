use Rattle.std.proofs.Common.{Ok, refl, sym, subst, ◌∙◌}
use Rattle.std.proofs.lemmas.List.{take_all}
use Rattle.ci_machine_steps.specs.Prelude.{Job}
use Rattle.ci_server_lookups.proofs.Loading.{gives, so}
use Rattle.ci_memory_queue.proofs.Ones.{NoneAhead, there_at, none_of_them, more_behind, first_here}
use Rattle.ci_memory_queue.proofs.heads.first_among.Goals as goal

-- this one is
pub returns-then-is_some : goal.returns-then-is_some
returns-then-is_some g c =
    let jobs = c.args.jobs.now in
    let i = c.loop-job.job-index in
    let job : Job = c.job-item.result in
    so g.T.Store.honest g.T.Store.holds g.T.Store.leaves _ _ _ _ (Ok tt) tt c.offer_ahead.result c.in_ok-found.found _ refl c.in_ok-found.was c.loop-job.invariant c.offer_ahead.ensures
    (λ k none ahead kept pipeline are.
    first_here k kept c.args.asks.now pipeline jobs are c.args.before.now i job c.loop-job-test.true c.job-item.is (none kept pipeline are) c.in_ok-found.found (sym c.if-is_some.true ∙ c.is_some.ensures)
    (ahead (there_at k kept c.args.asks.now pipeline jobs are c.args.before.now i job c.loop-job-test.true c.job-item.is)))

-- it isn't
pub loop-job-preserved : goal.loop-job-preserved
loop-job-preserved g c =
    let jobs = c.args.jobs.now in
    let i = c.loop-job.job-index in
    let job : Job = c.job-item.result in
    so g.T.Store.honest g.T.Store.holds g.T.Store.leaves _ _ _ _ (Ok tt) tt c.offer_ahead.result c.in_ok-found.found _ refl c.in_ok-found.was c.loop-job.invariant c.offer_ahead.ensures
    (λ k none ahead kept pipeline are.
    more_behind k kept c.args.asks.now pipeline jobs are c.args.before.now i job c.loop-job-test.true c.job-item.is (none kept pipeline are) c.in_ok-found.found (sym c.if-is_some.false ∙ c.is_some.ensures)
    (ahead (there_at k kept c.args.asks.now pipeline jobs are c.args.before.now i job c.loop-job-test.true c.job-item.is)))

-- none of all is
pub returns : goal.returns
returns g c =
    let jobs = c.args.jobs.now in
    gives g.T.Store.honest g.T.Store.holds g.T.Store.leaves _ _ _ (Ok tt) tt _ refl c.loop-job.invariant
    (λ k none kept pipeline are.
    none_of_them k kept c.args.asks.now pipeline jobs are c.args.before.now
    (subst (NoneAhead k c.args.asks.now c.args.before.now) (take_all c.loop-job.job-index jobs c.loop-job-test.false) (none kept pipeline are)))
