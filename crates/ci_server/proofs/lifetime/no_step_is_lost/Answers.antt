use Rattle.ci_server.proofs.LifetimeLemmas.{stands, keeps_groups, comes_of_each}
use Rattle.ci_server.proofs.Settled.{one_history}
use Rattle.ci_server.proofs.SentAgain.{repeats_of_lives}
use Rattle.ci_server.proofs.lifetime.no_step_is_lost.Goals as goal

pub returns-clause-settled : goal.returns-clause-settled
returns-clause-settled g c = one_history g.S.Store g.met.S.Store.settled c.laws_of_each_reached_state.ensures c.a_step_is_answered.ensures

pub returns-clause-kept : goal.returns-clause-kept
returns-clause-kept g c began ops server came honest =
    (stands g.S.Store g.met.S.Store.settled c.laws_of_each_reached_state.ensures c.a_step_is_answered.ensures began ops server came honest).0

pub returns-clause-groups : goal.returns-clause-groups
returns-clause-groups g c began ops server came honest =
    keeps_groups g.S.Store g.met.S.Store.settled c.laws_of_each_reached_state.ensures c.a_step_is_answered.ensures began ops server (returns-clause-kept g c began ops server came honest)

pub returns-clause-runs : goal.returns-clause-runs
returns-clause-runs g c began ops old new cs rs came each =
    comes_of_each g.S.Store g.met.S.Store.settled c.laws_of_each_reached_state.ensures c.a_step_is_answered.ensures began ops old new cs rs came each

pub returns-clause-repeats : goal.returns-clause-repeats
returns-clause-repeats g c = repeats_of_lives g.S.Store c.repeats_change_nothing.ensures.history
