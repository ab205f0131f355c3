use Rattle.std.proofs.Common.{rules, ◌∙◌, codes, not, ap, arith}
use Rattle.ci_store.specs.Prelude.{HasCleanDisk, IsUnchanged, state}
use Rattle.ci_store_sqlite.specs.Prelude.{HasNumber}
use Rattle.ci_store_sqlite.proofs.Versions.{stands_as_1, leaves_any, survives_both}
use Rattle.ci_store_sqlite.proofs.migrate.migrate.Goals as goal

pub returns-in_err-commit_both-clause-left : goal.returns-in_err-commit_both-clause-left
returns-in_err-commit_both-clause-left g c =
    let old = c.args.conn.now in
    let mid = c.has_number.new.conn in
    let same : HasCleanDisk (state g.S.Store mid) → IsUnchanged (state g.S.Store old) (state g.S.Store mid) = λ clean. c.in_ok-has_number.ensures.same clean in
    let has : HasCleanDisk (state g.S.Store mid) → HasNumber (codes "version") 1 (state g.S.Store old).now = λ clean. search (rules, c.in_ok-has_number.ensures.found clean) in
    leaves_any g.S.Store old mid same (c.is_autocommit-is_idle.ensures.settled (c.is_autocommit-is_idle.ensures.value ∙ ap not c.requires)) (λ is_open. (c.schema-schema.ensures.live is_open).0) (g.met.S.Store.stays old.store) has c.commit_both.new.conn
    c.has_number.ensures.survives c.commit_both.ensures.survives

pub returns-in_err-commit_both-clause-survives : goal.returns-in_err-commit_both-clause-survives
returns-in_err-commit_both-clause-survives g c =
    let old = c.args.conn.now in
    let mid = c.has_number.new.conn in
    let same : HasCleanDisk (state g.S.Store mid) → IsUnchanged (state g.S.Store old) (state g.S.Store mid) = λ clean. c.in_ok-has_number.ensures.same clean in
    let has : HasCleanDisk (state g.S.Store mid) → HasNumber (codes "version") 1 (state g.S.Store old).now = λ clean. search (rules, c.in_ok-has_number.ensures.found clean) in
    survives_both g.S.Store old mid same (c.is_autocommit-is_idle.ensures.settled (c.is_autocommit-is_idle.ensures.value ∙ ap not c.requires)) (λ is_open. (c.schema-schema.ensures.live is_open).0) (g.met.S.Store.stays old.store) has c.commit_both.new.conn
    c.has_number.ensures.survives c.commit_both.ensures.survives

pub returns-clause-left : goal.returns-clause-left
returns-clause-left g c =
    let old = c.args.conn.now in
    let mid = c.has_number.new.conn in
    let same : HasCleanDisk (state g.S.Store mid) → IsUnchanged (state g.S.Store old) (state g.S.Store mid) = λ clean. c.in_ok-has_number.ensures.same clean in
    let has : HasCleanDisk (state g.S.Store mid) → HasNumber (codes "version") 1 (state g.S.Store old).now = λ clean. search (rules, c.in_ok-has_number.ensures.found clean) in
    leaves_any g.S.Store old mid same (c.is_autocommit-is_idle.ensures.settled (c.is_autocommit-is_idle.ensures.value ∙ ap not c.requires)) (λ is_open. (c.schema-schema.ensures.live is_open).0) (g.met.S.Store.stays old.store) has c.commit_both.new.conn
    c.has_number.ensures.survives c.commit_both.ensures.survives

pub returns-clause-survives : goal.returns-clause-survives
returns-clause-survives g c =
    let old = c.args.conn.now in
    let mid = c.has_number.new.conn in
    let same : HasCleanDisk (state g.S.Store mid) → IsUnchanged (state g.S.Store old) (state g.S.Store mid) = λ clean. c.in_ok-has_number.ensures.same clean in
    let has : HasCleanDisk (state g.S.Store mid) → HasNumber (codes "version") 1 (state g.S.Store old).now = λ clean. search (rules, c.in_ok-has_number.ensures.found clean) in
    survives_both g.S.Store old mid same (c.is_autocommit-is_idle.ensures.settled (c.is_autocommit-is_idle.ensures.value ∙ ap not c.requires)) (λ is_open. (c.schema-schema.ensures.live is_open).0) (g.met.S.Store.stays old.store) has c.commit_both.new.conn
    c.has_number.ensures.survives c.commit_both.ensures.survives

pub returns-clause-made : goal.returns-clause-made
returns-clause-made g c clean k any =
    let old = c.args.conn.now in
    let mid = c.has_number.new.conn in
    let early : HasCleanDisk (state g.S.Store mid) = omega (arith, clean, c.commit_both.ensures.survives.clean) in
    let same : HasCleanDisk (state g.S.Store mid) → IsUnchanged (state g.S.Store old) (state g.S.Store mid) = λ clean. c.in_ok-has_number.ensures.same clean in
    let has : HasCleanDisk (state g.S.Store mid) → HasNumber (codes "version") 1 (state g.S.Store old).now = λ clean. search (rules, c.in_ok-has_number.ensures.found clean) in
    (c.in_ok-commit_both.ensures.made clean).1 k
    (stands_as_1 g.S.Store old mid same (c.is_autocommit-is_idle.ensures.settled (c.is_autocommit-is_idle.ensures.value ∙ ap not c.requires)) (λ is_open. (c.schema-schema.ensures.live is_open).0) (g.met.S.Store.stays old.store) has early k any)
