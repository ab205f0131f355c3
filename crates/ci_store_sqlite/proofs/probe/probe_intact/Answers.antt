use Rattle.std.proofs.Common.{◌≡◌, ◌∙◌, sym, subst, ap, ⊎_elim, not}
use Rattle.ci_store.specs.Prelude.{IsDatabase, state}
use Rattle.ci_store_sqlite.specs.Prelude.{LeavesOnly}
use Rattle.ci_store_sqlite.proofs.Looking.{on_ok, open_at}
use Rattle.ci_store_sqlite.proofs.probe.probe_intact.Goals as goal

pub returns-clause-intact : goal.returns-clause-intact
returns-clause-intact g c clean =
    on_ok c.probe.result
    (λ same k only.
    let old = state g.S.Store c.args.conn.now in
    let new = state g.S.Store c.probe.new.conn in
    let shows = same.0 in
    let left : LeavesOnly g.S.Store k c.probe.new.conn = λ db may. ⊎_elim (only db) (λ x. absurd x) (c.probe.ensures.survives.crash clean db may) in
    let was : old.now ≡ old.committed = c.is_autocommit-is_idle.ensures.settled (c.is_autocommit-is_idle.ensures.value ∙ ap not c.requires) shows.was_open in
    let is : new.now ≡ new.committed = shows.now_is ∙ was ∙ sym shows.committed_is in
    let sound : IsDatabase new.now = subst IsDatabase (sym shows.now_is) (c.schema-schema.ensures.live shows.was_open).0 in
    open_at g.S.Store k c.probe.new.conn shows.is_open is sound (g.met.S.Store.stays c.probe.new.conn.store shows.is_open) left)
    (c.probe.ensures.same clean)

pub returns-clause-left : goal.returns-clause-left
returns-clause-left g c clean k only db may = ⊎_elim (only db) (λ x. absurd x) (c.probe.ensures.survives.crash clean db may)
