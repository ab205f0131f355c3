use Rattle.std.proofs.Common.{sym, ap, subst, ◌∙◌}
use Rattle.ci_machine_steps.specs.Prelude.{may_run}
use Rattle.ci_memory_queue.specs.declared.queue.Class.{Class}
use Rattle.ci_memory_queue.specs.Offers.{IsFirstFree}
use Rattle.ci_server_lookups.proofs.Loading.{so}
use Rattle.ci_memory_queue.proofs.Leasts.{better_found, better_as_before}
use Rattle.ci_memory_queue.proofs.best.better_of.Goals as goal

-- the runner may be given it
pub returns-in-Some-clause-better : goal.returns-in-Some-clause-better
returns-in-Some-clause-better g c =
    let class : Class = record { asks = c.args.class.now.asks; jobs = c.first_by_turn.new.jobs } in
    so g.T.Store.honest g.T.Store.holds g.T.Store.leaves _ _ _ _ c.turn_of.result c.in_ok-turn.turn c.first_by_turn.result c.in_ok-offer.field-0 _ c.in_ok-turn.was c.in_ok-offer.was c.turn_of.ensures c.first_by_turn.ensures.first
    (λ k turns first kept.
    better_found k c.args.runner.now class c.args.before c.in-Some.offer
    (ap (may_run c.args.runner.now class.asks.project) (sym c.as_slice.ensures) ∙ (sym c.may_run.ensures ∙ c.if-not-may_run.false))
    (subst (IsFirstFree k class.asks class.jobs.keys c.args.before) c.in-Some.is (first kept (turns kept))))

-- there is none
pub returns-in-None-clause-better : goal.returns-in-None-clause-better
returns-in-None-clause-better g c =
    let class : Class = record { asks = c.args.class.now.asks; jobs = c.first_by_turn.new.jobs } in
    so g.T.Store.honest g.T.Store.holds g.T.Store.leaves _ _ _ _ c.turn_of.result c.in_ok-turn.turn c.first_by_turn.result c.in_ok-offer.field-0 _ c.in_ok-turn.was c.in_ok-offer.was c.turn_of.ensures c.first_by_turn.ensures.first
    (λ k turns first kept.
    better_as_before k c.args.runner.now class c.args.before (subst (IsFirstFree k class.asks class.jobs.keys c.args.before) c.in-None.is (first kept (turns kept))))
