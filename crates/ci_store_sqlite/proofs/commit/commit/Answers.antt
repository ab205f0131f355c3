use Rattle.std.proofs.Common.{◌≡◌, ◌∙◌, refl, sym, subst, ap, inr, arith, not}
use Rattle.ci_store.specs.Prelude.{HasCleanDisk, Held, state, Ghosts, Kept, cleared, written}
use Rattle.ci_store_sqlite.specs.Prelude.{IsAt, LeavesOnly, is_done}
use Rattle.ci_store_sqlite.proofs.Committing.{back_at, done_only, left_either}
use Rattle.ci_store_sqlite.proofs.commit.commit.Goals as goal

-- what the connection keeps once it is known to be open, under its other name
within : {S : Type 0} (g : Ghosts S) (old asked inside : Held S) → inside ≡ asked → (HasCleanDisk (state g asked) → (k : Kept) → LeavesOnly g k old → IsAt g k asked) → HasCleanDisk (state g inside) → (k : Kept) → LeavesOnly g k old → IsAt g k inside
within g old asked inside same intact = subst (λ h. HasCleanDisk (state g h) → (k : Kept) → LeavesOnly g k old → IsAt g k h) (sym same) intact

pub returns-in-Done-clause-done : goal.returns-in-Done-clause-done
returns-in-Done-clause-done g c clean k only =
    let begun = c.conn.inside.conn in
    let new = c.attempt.new.conn in
    let at = within g.S.Store c.args.conn.now c.ask.new.self begun c.conn.view_is c.in_ok-ask.ensures.intact (omega (arith, clean, c.attempt.ensures.survives.clean)) k only in
    done_only g.S.Store (λ k. written c.args.changes.now c.args.rows.now c.args.indexes.now (cleared c.args.jobs.now k)) k begun new at (c.in-Done.ensures.done clean refl) (λ db is_open may. g.met.S.Store.settled new.store db is_open may)

pub returns-in-Done-clause-left : goal.returns-in-Done-clause-left
returns-in-Done-clause-left g c clean k only db may = inr (returns-in-Done-clause-done g c clean k only db may)

pub returns-in-Ok-clause-memory : goal.returns-in-Ok-clause-memory
returns-in-Ok-clause-memory g c clean is k only =
    let begun = c.conn.inside.conn in
    let mid = c.attempt.new.conn in
    let new = c.ask-in-Unknown.new.self in
    let early : HasCleanDisk (state g.S.Store mid) = omega (arith, clean, c.ask-in-Unknown.ensures.survives.clean) in
    let at = within g.S.Store c.args.conn.now c.ask.new.self begun c.conn.view_is c.in_ok-ask.ensures.intact (omega (arith, early, c.attempt.ensures.survives.clean)) k only in
    let settled : (state g.S.Store begun).now ≡ (state g.S.Store begun).committed = c.is_autocommit-is_idle.ensures.settled (c.is_autocommit-is_idle.ensures.value ∙ ap not c.conn.invariant.0) at.is_open in
    (back_at g.S.Store k begun mid new at settled (c.attempt.ensures.back early (ap is_done c.in-Unknown.is)) (c.in-Ok.ensures.same clean) (λ db is_open may. g.met.S.Store.settled new.store db is_open may)).left

pub returns-in-Ok-clause-left : goal.returns-in-Ok-clause-left
returns-in-Ok-clause-left g c clean k only =
    let begun = c.conn.inside.conn in
    let early : HasCleanDisk (state g.S.Store c.attempt.new.conn) = omega (arith, clean, c.ask-in-Unknown.ensures.survives.clean) in
    let at = within g.S.Store c.args.conn.now c.ask.new.self begun c.conn.view_is c.in_ok-ask.ensures.intact (omega (arith, early, c.attempt.ensures.survives.clean)) k only in
    left_either g.S.Store (λ k. written c.args.changes.now c.args.rows.now c.args.indexes.now (cleared c.args.jobs.now k)) k begun c.attempt.new.conn c.ask-in-Unknown.new.self at clean c.attempt.ensures.survives c.ask-in-Unknown.ensures.survives

pub returns-in-Err-clause-left : goal.returns-in-Err-clause-left
returns-in-Err-clause-left g c clean k only =
    let begun = c.conn.inside.conn in
    let early : HasCleanDisk (state g.S.Store c.attempt.new.conn) = omega (arith, clean, c.ask-in-Unknown.ensures.survives.clean) in
    let at = within g.S.Store c.args.conn.now c.ask.new.self begun c.conn.view_is c.in_ok-ask.ensures.intact (omega (arith, early, c.attempt.ensures.survives.clean)) k only in
    left_either g.S.Store (λ k. written c.args.changes.now c.args.rows.now c.args.indexes.now (cleared c.args.jobs.now k)) k begun c.attempt.new.conn c.ask-in-Unknown.new.self at clean c.attempt.ensures.survives c.ask-in-Unknown.ensures.survives
