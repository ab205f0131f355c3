use Rattle.std.proofs.Common.{◌≡◌, ◌∙◌, ℕ, List, map, get_or, refl, sym, subst, arith}
use Rattle.std.proofs.Math.ListN.{get_or-map}
use Rattle.std.specs.Borrow.{Bor}
use Rattle.ci_store.specs.Prelude.{state}
use Rattle.ci_store_rows.proofs.Creates.{runs_next, runs_mode, schema_after}
use Rattle.ci_store_sqlite.proofs.Committing.{runs_none, runs_more}
use Rattle.ci_store_sqlite.specs.Prelude.{IsBare}
use Rattle.ci_store_sqlite.proofs.tables.define.Goals as goal

text_is : (texts : List (Bor (List ℕ))) (k : ℕ) (d : Bor (List ℕ)) → (get_or texts k d).now ≡ get_or (map (λ t. t.now) texts) k d.now
text_is texts k d = sym (get_or-map (λ t. t.now) texts k d)

pub loop-text-init : goal.loop-text-init
loop-text-init g c = (refl, runs_none _ _ (λ blank. record { listed = blank; rows = tt; sound = λ ne. absurd (ne refl) }))

pub loop-text-preserved : goal.loop-text-preserved
loop-text-preserved g c =
    let one = c.in_ok-change.ensures in
    let new = c.change.new.tx.conn.now in
    let low = c.loop-text-test.true in (
      one.same_reference ∙ c.loop-text.invariant.0,
      runs_more c.loop-text.invariant.1 new one.kept one.survives (λ clean inside bare.
          let ran = one.changed clean inside in
          (ran.0, λ blank. runs_next c.loop-text.text-index low _ (state g.S.Store c.loop-text.tx.conn.now) (state g.S.Store new) c.in_ok-change.field-0 (bare blank) ran.1 (rw text_is))),
    )

pub returns-clause-makes : goal.returns-clause-makes
returns-clause-makes g c =
    let mid = c.loop-text.tx.conn.now in
    let new = c.change-2.new.tx.conn.now in
    let one = c.in_ok-change-2.ensures in
    let all : c.loop-text.text-index ≡ 21 = omega (arith, c.loop-text-test.false, c.loop-text.auto.text-index-end) in
    (runs_more c.loop-text.invariant.1 new one.kept one.survives (λ clean inside bare.
    let ran = one.changed clean inside in
    (ran.0, λ blank. runs_mode (state g.S.Store mid) (state g.S.Store new) c.in_ok-change-2.field-0 (subst (λ k. IsBare (schema_after k) (state g.S.Store mid).now) all (bare blank)) ran.1))).done
