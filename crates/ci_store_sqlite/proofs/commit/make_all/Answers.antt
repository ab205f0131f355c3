use Rattle.std.proofs.Common.{rules, ◌≡◌, ◌∙◌, ◌++◌, length, refl, sym, ap, subst, take}
use Rattle.ci_store.specs.Prelude.{applied, state}
use Rattle.ci_store_sqlite.specs.Prelude.{in_state, Stands}
use Rattle.ci_store_sqlite.proofs.Committing.{runs_none, kept_after, follows_more}
use Rattle.ci_store_sqlite.proofs.Applied.{applied_append, first_part, no_changes}
use Rattle.ci_store_sqlite.proofs.commit.make_all.Goals as goal

pub loop-rest-init : goal.loop-rest-init
loop-rest-init g c = (refl, (λ s. s), (λ s. refl), runs_none _ _ (λ k stands. stands))

pub loop-rest-preserved : goal.loop-rest-preserved
loop-rest-preserved g c =
    let inv = c.loop-rest.invariant in
    let done = inv.1 in
    let one = c.in_ok-made.ensures in
    let rest = c.loop-rest.rest.now in
    let first = take c.in_ok-made.made rest in
    let behind = c.split_at.result.1.now in
    let cut = c.split_at.ensures in
    let parts : first ++ behind ≡ rest = ap (λ l. l ++ behind) (first_part c.in_ok-made.made c.split_at.result.0.now behind rest cut.by_index.0 cut.front_len) ∙ sym cut.by_index.0 in
    (one.same_reference ∙ inv.0, (λ s. applied first (done s)), (λ s. sym (applied_append first behind (done s)) ∙ ap (λ l. applied l (done s)) parts ∙ inv.2 s), follows_more (in_state done) (in_state (applied first)) _ inv.3 c.make_first.new.tx.conn.now one.kept one.survives one.makes (λ k. refl))

pub returns-in_err-made-clause-kept : goal.returns-in_err-made-clause-kept
returns-in_err-made-clause-kept g c = kept_after c.loop-rest.invariant.3 c.make_first.new.tx.conn.now c.make_first.ensures.kept c.make_first.ensures.survives

pub returns-clause-makes : goal.returns-clause-makes
returns-clause-makes g c clean inside =
    let inv = c.loop-rest.invariant in
    let ran = inv.3.done clean inside in
    let none : length c.loop-rest.rest.now ≡ 0 = search rules in
    (ran.0, λ k stands. subst (λ s. Stands (record k { state = s }) (state g.S.Store c.loop-rest.tx.conn.now).now) (ap (λ l. applied l (inv.1 k.state)) (sym (no_changes c.loop-rest.rest.now none)) ∙ inv.2 k.state) (ran.1 k stands))
