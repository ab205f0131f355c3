use Rattle.std.proofs.Common.{rules, arith, ◌≡◌, ◌≢◌, codes, sym, subst}
use Rattle.ci_store.specs.Prelude.{HasCleanDisk, IsUnchanged, state}
use Rattle.ci_store_sqlite.specs.Prelude.{IsAt, HasNumber, LacksNumber, Blames, IsFailure, O2}
use Rattle.ci_store_sqlite.proofs.AnyOpenings.{blames_any, refuses_any, own_fault, only_2, any_mid, left_of_2, as_it_was}
use Rattle.ci_store_sqlite.proofs.open.open.Goals as goal

pub returns-in-Ok-clause-opened : goal.returns-in-Ok-clause-opened
returns-in-Ok-clause-opened g c clean k any =
    let old = c.args.conn in
    let same = c.in-Ok.ensures.same clean in
    let is_open = same.0.was_open in
    let has : HasNumber (codes "version") 2 (state g.S.Store old).now = subst (HasNumber (codes "version") 2) same.0.now_is (c.in-Ok.ensures.ours clean).version in
    c.in-Ok.ensures.opened clean k
    (only_2 g.S.Store old (c.is_autocommit.ensures.settled (search rules)) (λ o. (c.schema-schema.ensures.live o).0) (g.met.S.Store.stays old.store) is_open (λ db o may. g.met.S.Store.settled old.store db o may) has k any)

pub returns-then-ne-clause-own : goal.returns-then-ne-clause-own
returns-then-ne-clause-own g c clean k any =
    let old = c.args.conn in
    let other : c.in-Err.refused.0 ≢ O2 = search rules in
    own_fault g.S.Store old (c.is_autocommit.ensures.settled (search rules)) (λ o. (c.schema-schema.ensures.live o).0) (g.met.S.Store.stays old.store) c.in-Err.refused.1 c.in-Err.refused.0 (c.in-Err.ensures.unchanged clean)
    (blames_any (state g.S.Store old).now c.in-Err.refused.0 (c.in-Err.ensures.blamed clean) (λ is. absurd (other is))) k any

pub returns-in-Ok-migrate-clause-opened : goal.returns-in-Ok-migrate-clause-opened
returns-in-Ok-migrate-clause-opened g c clean k any =
    let old = c.args.conn in
    let mid = c.in-Err.refused.1 in
    let is : c.in-Err.refused.0 ≡ O2 = search rules in
    let same : HasCleanDisk (state g.S.Store mid) → IsUnchanged (state g.S.Store old) (state g.S.Store mid) = λ early. c.in-Err.ensures.unchanged early (λ f. subst IsFailure is f) in
    let late : HasCleanDisk (state g.S.Store c.migrate.new.conn) = subst (λ h. HasCleanDisk (state g.S.Store h)) c.over.ensures.same clean in
    subst (IsAt g.S.Store k) (sym c.over.ensures.same) (c.in-Ok-migrate.ensures.made late k (any_mid g.S.Store old mid c.migrate.new.conn c.in-Err.ensures.less_fault same c.migrate.ensures.survives late k any))

pub returns-in-Ok-migrate-clause-found : goal.returns-in-Ok-migrate-clause-found
returns-in-Ok-migrate-clause-found g c clean =
    let old = c.args.conn in
    let mid = c.in-Err.refused.1 in
    let is : c.in-Err.refused.0 ≡ O2 = search rules in
    let same : HasCleanDisk (state g.S.Store mid) → IsUnchanged (state g.S.Store old) (state g.S.Store mid) = λ early. c.in-Err.ensures.unchanged early (λ f. subst IsFailure is f) in
    let late : HasCleanDisk (state g.S.Store c.migrate.new.conn) = subst (λ h. HasCleanDisk (state g.S.Store h)) c.over.ensures.same clean in
    as_it_was g.S.Store old mid c.migrate.new.conn c.in-Err.ensures.less_fault same c.migrate.ensures.survives (HasNumber (codes "version") 1) late (c.in-Ok-migrate.ensures.found late)

pub returns-in-Err-migrate-clause-left : goal.returns-in-Err-migrate-clause-left
returns-in-Err-migrate-clause-left g c clean k any =
    let old = c.args.conn in
    let mid = c.in-Err.refused.1 in
    let is : c.in-Err.refused.0 ≡ O2 = search rules in
    let same : HasCleanDisk (state g.S.Store mid) → IsUnchanged (state g.S.Store old) (state g.S.Store mid) = λ early. c.in-Err.ensures.unchanged early (λ f. subst IsFailure is f) in
    c.migrate.ensures.left clean k (any_mid g.S.Store old mid c.migrate.new.conn c.in-Err.ensures.less_fault same c.migrate.ensures.survives clean k any)

pub returns-in-Err-migrate-clause-left_of_2 : goal.returns-in-Err-migrate-clause-left_of_2
returns-in-Err-migrate-clause-left_of_2 g c clean k only =
    let old = c.args.conn in
    let mid = c.in-Err.refused.1 in
    let is : c.in-Err.refused.0 ≡ O2 = search rules in
    let same : HasCleanDisk (state g.S.Store mid) → IsUnchanged (state g.S.Store old) (state g.S.Store mid) = λ early. c.in-Err.ensures.unchanged early (λ f. subst IsFailure is f) in
    left_of_2 g.S.Store old mid c.migrate.new.conn c.in-Err.ensures.less_fault same c.migrate.ensures.survives clean k only

pub returns-in-Err-migrate-clause-blamed : goal.returns-in-Err-migrate-clause-blamed
returns-in-Err-migrate-clause-blamed g c clean =
    let old = c.args.conn in
    let mid = c.in-Err.refused.1 in
    let is : c.in-Err.refused.0 ≡ O2 = search rules in
    let same : HasCleanDisk (state g.S.Store mid) → IsUnchanged (state g.S.Store old) (state g.S.Store mid) = λ early. c.in-Err.ensures.unchanged early (λ f. subst IsFailure is f) in
    let early : HasCleanDisk (state g.S.Store mid) = omega (arith, clean, c.migrate.ensures.survives.clean) in
    let lacks : c.in-Err-migrate.fault ≡ O2 → LacksNumber (codes "version") 1 (state g.S.Store mid).now = c.in-Err-migrate.ensures.lacks clean in
    let blames : Blames O2 (state g.S.Store old).now = subst (λ fault. Blames fault (state g.S.Store old).now) is (c.in-Err.ensures.blamed early) in
    refuses_any (state g.S.Store old).now c.in-Err-migrate.fault c.in-Err-migrate.ensures.known blames
    (λ fault. as_it_was g.S.Store old mid c.migrate.new.conn c.in-Err.ensures.less_fault same c.migrate.ensures.survives (LacksNumber (codes "version") 1) clean (lacks fault))

pub returns-in-Err-migrate-clause-own : goal.returns-in-Err-migrate-clause-own
returns-in-Err-migrate-clause-own g c clean k any =
    let old = c.args.conn in
    let mid = c.in-Err.refused.1 in
    let is : c.in-Err.refused.0 ≡ O2 = search rules in
    let same : HasCleanDisk (state g.S.Store mid) → IsUnchanged (state g.S.Store old) (state g.S.Store mid) = λ early. c.in-Err.ensures.unchanged early (λ f. subst IsFailure is f) in
    let early : HasCleanDisk (state g.S.Store mid) = omega (arith, clean, c.migrate.ensures.survives.clean) in
    let lacks : c.in-Err-migrate.fault ≡ O2 → LacksNumber (codes "version") 1 (state g.S.Store mid).now = c.in-Err-migrate.ensures.lacks clean in
    let blames : Blames O2 (state g.S.Store old).now = subst (λ fault. Blames fault (state g.S.Store old).now) is (c.in-Err.ensures.blamed early) in
    own_fault g.S.Store old (c.is_autocommit.ensures.settled (search rules)) (λ o. (c.schema-schema.ensures.live o).0) (g.met.S.Store.stays old.store) mid c.in-Err-migrate.fault (λ _. same early)
    (refuses_any (state g.S.Store old).now c.in-Err-migrate.fault c.in-Err-migrate.ensures.known blames
    (λ fault. as_it_was g.S.Store old mid c.migrate.new.conn c.in-Err.ensures.less_fault same c.migrate.ensures.survives (LacksNumber (codes "version") 1) clean (lacks fault))) k any
