use Rattle.std.proofs.Common.{rules, ◌<◌, [], ◌∷◌, Option, Ok, Err, None, inl, inr, refl, subst}
use Rattle.ci_store.specs.Prelude.{Kept}
use Rattle.ci_store.specs.declared.fault.StoreFault.TheVariants.{Broken}
use Rattle.ci_store_sqlite.specs.Prelude.{LAST_INTEGER, ShowsRecords, FindsNumber, listed, number}
use Rattle.ci_store_sqlite.proofs.Looking.{looked_so, after_look}
use Rattle.ci_store_sqlite.proofs.load.one_named.Goals as goal
use Rattle.ci_store_sqlite.proofs.load.one_named.Goals.{in-None, in-Some}

pub returns-then-id-le-LAST_INTEGER : goal.returns-then-id-le-LAST_INTEGER
returns-then-id-le-LAST_INTEGER g c = looked_so c.one_at.ensures (λ k at found h. inl h)

pub returns : goal.returns
returns g c =
    let above : LAST_INTEGER < c.args.id = search rules in
    let finds = λ (k : Kept) (found : Option g.row.R.Denot). FindsNumber g.R.Loaded.is_row g.S.Store c.args.sql.now c.args.above.now c.args.id c.args.conn.now c.one_at-2.new.conn found in
    elim c.match-found.branch [
      | in-None w ↦ rw w.result-is
          (after_look {Q = finds} (Ok None) c.in_ok-found.ensures
          (λ k at h. inr (refl, above, subst (λ found. ShowsRecords g.R.Loaded.is_row g.S.Store c.args.above.now (number LAST_INTEGER ∷ []) c.args.conn.now c.one_at-2.new.conn (listed found)) w.in-None.is h)))
      | in-Some w ↦ rw w.result-is (after_look {Q = finds} (Err Broken) c.in_ok-found.ensures (λ k at h. tt))
    ]
