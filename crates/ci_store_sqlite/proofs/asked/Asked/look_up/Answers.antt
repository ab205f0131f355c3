use Rattle.std.proofs.Common.{◌∙◌, ◌≤◌, sym, subst}
use Rattle.ci_store.specs.Prelude.{HasCleanDisk, IsUnchanged, state, doubt, Kept}
use Rattle.ci_store_sqlite.specs.Prelude.{IsAt, LeavesOnly}
use Rattle.ci_store_sqlite.proofs.Looking.{looks, if_shown}
use Rattle.ci_store_sqlite.proofs.asked.Asked.look_up.Goals as goal

pub invariant_of-self : goal.invariant_of-self
invariant_of-self g c = (c.rows-found.ensures.idle, λ known clean. if_shown c.args.sql.now _ _ _ c.rows-found.result _ (sym c.is_err-self-inside.ensures.value ∙ known) (c.rows-found.ensures.shown clean))

pub returns : goal.returns
returns g c =
    let old = c.args.self.now in
    let mid = sym c.self.view_is in
    looks g.S.Store old c.self.inside.conn (subst (λ h. doubt (state g.S.Store old).is_clean ≤ doubt (state g.S.Store h).is_clean) mid c.ask.ensures.survives.clean) c.rows-found.new.conn c.args.sql.now c.requires
    (subst (λ h. HasCleanDisk (state g.S.Store h) → IsUnchanged (state g.S.Store old) (state g.S.Store h)) mid c.in_ok-ask.ensures.same)
    (subst (λ h. HasCleanDisk (state g.S.Store h) → (k : Kept) → LeavesOnly g.S.Store k old → IsAt g.S.Store k h) mid c.in_ok-ask.ensures.intact) c.rows-found.ensures.clean c.rows-found.ensures.survives _ c.rows-found.result (λ rows. rows.items) c.rows-found.ensures.shown
