use Rattle.std.proofs.Common.{◌≡◌, ◌∙◌, take, map, sym, subst}
use Rattle.std.proofs.lemmas.List.{take_more, take_all}
use Rattle.ci_store.specs.Prelude.{bound}
use Rattle.ci_store_sqlite.specs.Prelude.{ShowsNone}
use Rattle.ci_store_rows.proofs.Removals.{one_more}
use Rattle.ci_store_sqlite.proofs.Committing.{kept_after, survives_after, runs_more}
use Rattle.ci_store_sqlite.proofs.make.remove.Goals as goal

pub loop-query-preserved : goal.loop-query-preserved
loop-query-preserved g c =
    let old = c.args.tx.now.conn.now in
    let new = c.shows_none.new.tx.conn.now in
    let one = c.in_ok-shows_none.ensures in
    let at = c.loop-query.query-index in
    let all = c.args.referring.now in (
      one.same_reference ∙ c.loop-query.invariant.0,
      runs_more c.loop-query.invariant.1 new one.kept one.survives (λ clean inside was.
          let none = one.none clean inside in
          (none.0, subst (λ queries. ShowsNone g.S.Store (map (λ query. query.now) queries) (bound c.args.key.now) old new) (sym (take_more all at _ c.loop-query-test.true)) (one_more g.S.Store c.loop-query.tx.conn.now new (λ query. query.now) (bound c.args.key.now) (take at all) _ old was none.1))),
    )

pub returns-clause-removes : goal.returns-clause-removes
returns-clause-removes g c =
    let mid = c.loop-query.tx.conn.now in
    let one = c.in_ok-change.ensures in
    let all : take c.loop-query.query-index c.args.referring.now ≡ c.args.referring.now = take_all _ _ c.loop-query-test.false in
    (runs_more c.loop-query.invariant.1 c.change.new.tx.conn.now one.kept one.survives (λ clean inside was.
    let ran = one.changed clean inside in
    (ran.0, record { mid = mid; none = subst (λ queries. ShowsNone g.S.Store (map (λ query. query.now) queries) (bound c.args.key.now) c.args.tx.now.conn.now mid) all was; count = c.in_ok-change.field-0; removed = ran.1 }))).done

pub returns-in_err-shows_none-clause-kept : goal.returns-in_err-shows_none-clause-kept
returns-in_err-shows_none-clause-kept g c = kept_after c.loop-query.invariant.1 c.shows_none.new.tx.conn.now c.shows_none.ensures.kept c.shows_none.ensures.survives

pub returns-in_err-shows_none-clause-survives : goal.returns-in_err-shows_none-clause-survives
returns-in_err-shows_none-clause-survives g c = survives_after c.loop-query.invariant.1 c.shows_none.new.tx.conn.now c.shows_none.ensures.kept c.shows_none.ensures.survives

pub returns-in_err-change-clause-kept : goal.returns-in_err-change-clause-kept
returns-in_err-change-clause-kept g c = kept_after c.loop-query.invariant.1 c.change.new.tx.conn.now c.change.ensures.kept c.change.ensures.survives

pub returns-in_err-change-clause-survives : goal.returns-in_err-change-clause-survives
returns-in_err-change-clause-survives g c = survives_after c.loop-query.invariant.1 c.change.new.tx.conn.now c.change.ensures.kept c.change.ensures.survives

pub returns-clause-kept : goal.returns-clause-kept
returns-clause-kept g c = kept_after c.loop-query.invariant.1 c.change.new.tx.conn.now c.change.ensures.kept c.change.ensures.survives

pub returns-clause-survives : goal.returns-clause-survives
returns-clause-survives g c = survives_after c.loop-query.invariant.1 c.change.new.tx.conn.now c.change.ensures.kept c.change.ensures.survives
