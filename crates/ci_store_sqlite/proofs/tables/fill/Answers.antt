use Rattle.std.proofs.Common.{◌≡◌, ◌∙◌, ℕ, List, [], ◌∷◌, map, get_or, refl, sym, subst, arith}
use Rattle.std.proofs.Math.ListN.{get_or-map}
use Rattle.std.specs.Borrow.{Bor}
use Rattle.ci_store.specs.Prelude.{bound_value, state, IsOf, Changes}
use Rattle.ci_store_sqlite.specs.Prelude.{INSERT_META, the_schema}
use Rattle.ci_store_sqlite.proofs.Committing.{runs_none, runs_more}
use Rattle.ci_store_rows.proofs.Fills.{rows_after, begins, ends, fills_next}
use Rattle.ci_store_sqlite.proofs.tables.fill.Goals as goal

key_is : (rows : List (Bor (List ℕ) × ℕ)) (k : ℕ) (d : Bor (List ℕ) × ℕ) → (get_or rows k d).0.now ≡ get_or (map (λ r. r.0.now) rows) k d.0.now
key_is rows k d = sym (get_or-map (λ r. r.0.now) rows k d)

num_is : (rows : List (Bor (List ℕ) × ℕ)) (k : ℕ) (d : Bor (List ℕ) × ℕ) → (get_or rows k d).1 ≡ get_or (map (λ r. r.1) rows) k d.1
num_is rows k d = sym (get_or-map (λ r. r.1) rows k d)

pub loop-key-init : goal.loop-key-init
loop-key-init g c = (refl, runs_none _ _ (λ bare. begins _ bare))

pub loop-key-preserved : goal.loop-key-preserved
loop-key-preserved g c =
    let one = c.in_ok-change.ensures in
    let mid = c.loop-key.tx.conn.now in
    let new = c.change.new.tx.conn.now in
    let at = c.loop-key.key-index in
    let low = c.loop-key-test.true in (
      one.same_reference ∙ c.loop-key.invariant.0,
      runs_more c.loop-key.invariant.1 new one.kept one.survives (λ clean inside was.
          let ran = one.changed clean inside in
          let row = (λ i. bound_value (c.to_sql.ensures i) ∷ bound_value (c.in_ok-number.ensures i) ∷ []) ∙ refl in
          let h = subst (λ row. Changes g.S.Store INSERT_META.now row c.in_ok-change.field-0 mid new) row ran.1 in
          (ran.0, λ bare. fills_next at low _ _ (rw key_is, rw num_is) (state g.S.Store mid) (state g.S.Store new) c.in_ok-change.field-0 (was bare) h)),
    )

pub returns-clause-makes : goal.returns-clause-makes
returns-clause-makes g c = λ clean inside.
    let it = c.loop-key.invariant.1.done clean inside in
    let all : c.loop-key.key-index ≡ 7 = omega (arith, c.loop-key-test.false, c.loop-key.auto.key-index-end) in
    (it.0, λ bare. ends _ (subst (λ k. IsOf the_schema (rows_after k) (state g.S.Store c.loop-key.tx.conn.now).now) all (it.1 bare)))
