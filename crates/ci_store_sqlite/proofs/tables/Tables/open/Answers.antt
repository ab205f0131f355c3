use Rattle.std.proofs.Common.{arith, sym, subst, ⊎_elim}
use Rattle.ci_store.specs.Prelude.{HasCleanDisk, state}
use Rattle.ci_store_sqlite.specs.Prelude.{Stands, IsAt}
use Rattle.ci_store_sqlite.proofs.Openings.{never_blamed}
use Rattle.ci_store_sqlite.proofs.tables.Tables.open.Goals as goal

pub returns-in-Ok-clause-opened : goal.returns-in-Ok-clause-opened
returns-in-Ok-clause-opened g c clean k only =
    let found = c.recognize.new.conn in
    let late : HasCleanDisk (state g.S.Store found) = subst (λ h. HasCleanDisk (state g.S.Store h)) c.open.ensures clean in
    let probed : HasCleanDisk (state g.S.Store c.probe_intact.new.conn) = omega (arith, late, c.recognize.ensures.survives.clean) in
    let at = c.in_default.ensures.intact probed k only in
    let same = c.in-Ok.ensures.same late in
    subst (λ h. IsAt g.S.Store k h) (sym c.open.ensures)
    (record {
      is_open = same.0.is_open;
      now = subst (Stands k) (sym same.0.now_is) at.now;
      left = λ db may. ⊎_elim (at.left db) (λ x. absurd x) (c.recognize.ensures.survives.crash late db may);
    })

pub returns-in-Err-recognize-clause-left : goal.returns-in-Err-recognize-clause-left
returns-in-Err-recognize-clause-left g c clean k only db may =
    let probed : HasCleanDisk (state g.S.Store c.probe_intact.new.conn) = omega (arith, clean, c.recognize.ensures.survives.clean) in
    ⊎_elim (c.probe_intact.ensures.left probed k only db) (λ x. absurd x) (c.recognize.ensures.survives.crash clean db may)

pub returns-in-Err-recognize-clause-own : goal.returns-in-Err-recognize-clause-own
returns-in-Err-recognize-clause-own g c clean k only =
    let probed : HasCleanDisk (state g.S.Store c.probe_intact.new.conn) = omega (arith, clean, c.recognize.ensures.survives.clean) in
    never_blamed k _ (c.in_default.ensures.intact probed k only).now c.in-Err-recognize.fault (c.in-Err-recognize.ensures.blamed clean)
