use Rattle.std.proofs.Common.{◌∙◌, sym, subst, ap, not, IsTrue}
use Rattle.ci_store.specs.Prelude.{HasCleanDisk, state}
use Rattle.ci_store_sqlite.specs.Prelude.{IsAt, LeavesOnly}
use Rattle.ci_store_sqlite.proofs.Looking.{open_at}
use Rattle.ci_store_sqlite.proofs.asked.Asked.ask.Goals as goal

pub returns-in_ok-probe_intact-clause-intact : goal.returns-in_ok-probe_intact-clause-intact
returns-in_ok-probe_intact-clause-intact g c clean k only = c.in_ok-probe_intact.ensures.intact clean k (subst (λ h. LeavesOnly g.S.Store k h) (sym c.self.view_is) only)

pub returns-else-self-clause-intact : goal.returns-else-self-clause-intact
returns-else-self-clause-intact g c clean k only =
    let conn = c.self.inside.conn in
    let is_open : IsTrue (state g.S.Store conn).is_open = c.self.invariant.1 c.if-self.false (subst (λ h. HasCleanDisk (state g.S.Store h)) (sym c.self.view_is) clean) in
    let settled = c.is_autocommit-is_idle.ensures.settled (c.is_autocommit-is_idle.ensures.value ∙ ap not c.self.invariant.0) is_open in
    subst (λ h. IsAt g.S.Store k h) c.self.view_is
    (open_at g.S.Store k conn is_open settled (c.schema-schema.ensures.live is_open).0 (g.met.S.Store.stays conn.store is_open) (subst (λ h. LeavesOnly g.S.Store k h) (sym c.self.view_is) only))
