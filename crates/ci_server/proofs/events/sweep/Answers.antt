use Rattle.std.proofs.Common.{subst}
use Rattle.std.proofs.lemmas.Result.{IfOk-at_ok}
use Rattle.ci_machine_steps.specs.Prelude.{Answer, Event}
use Rattle.ci_store.specs.Prelude.{UnlessBroken}
use Rattle.ci_server_lookups.specs.Prelude.{IsKept}
use Rattle.ci_server.proofs.Keeping.{is_kept}
use Rattle.ci_server.proofs.Handling.{performed}
use Rattle.ci_server.proofs.events.sweep.Goals as goal

-- the look-ups left the store as it was, so the changes were committed in it
pub returns-clause-performed : goal.returns-clause-performed
returns-clause-performed g c = λ honest s sound held seed.
    let looked = c.commit.ensures.was_honest honest in
    let k = held.kept in
    let kept = is_kept s k sound held.is_of in
    let p = c.in_ok-planned.planned in
    let still : g.T.Store.holds c.plan_sweep.new.store k × IsKept k
    = subst (λ r. UnlessBroken r (g.T.Store.holds c.plan_sweep.new.store k × IsKept k)) c.in_ok-planned.was (c.plan_sweep.ensures.kept looked k (held.held, kept)) in
    let plans = IfOk-at_ok _ c.in_ok-planned.was (c.plan_sweep.ensures.answered looked k (held.held, kept)) kept in
    performed g.T.Store.holds g.T.Store.leaves Answer.Swept (Event.Sweep, c.args.now, seed) s k held.is_of p.cleared.items p.answer p.changes p.beside c.commit.new.store c.commit.result
    plans.made plans.settled c.commit.ensures.answer (c.commit.ensures.ends honest k still.0)
