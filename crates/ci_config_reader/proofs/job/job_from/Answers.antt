use Rattle.std.proofs.Common.{◌+◌, drop, ap, subst}
use Rattle.ci_config.specs.Prelude.{value_view, job_entry, job_from, pair_view, pairs_view, job_view}
use Rattle.ci_config_reader.specs.Answer.{builds_with}
use Rattle.ci_config_reader.proofs.Telling.{Fails, entries_by, map-next, map-fails}
use Rattle.ci_config_reader.proofs.Trees.{step}
use Rattle.ci_config_reader.proofs.job.job_from.Goals as goal

pub loop-before-init : goal.loop-before-init
loop-before-init c = λ p from. ap (λ j. entries_by job_entry 0 j (pairs_view c.args.pairs.now) p) c.blank_job-job.ensures

pub returns-in-Err : goal.returns-in-Err
returns-in-Err c =
    let ms = c.args.pairs.now in
    let i = c.loop-before.before in
    let m = c.index-pairs-before.result in
    let e = c.in-Err.fault in
    map-fails job_entry i (job_view c.loop-before.job) (pair_view m) (pairs_view (drop (i + 1) ms)) (pairs_view (drop i ms)) (λ p. job_from p c.args.name.now (pairs_view ms)) e c.within.result
    (step pair_view ms i m c.loop-before-test.true c.index-pairs-before.is) c.loop-before.invariant c.within.ensures
    (subst (λ key. Fails e (job_entry (builds_with e) (key, value_view m.1) (job_view c.loop-before.job))) c.as_str.ensures c.in-Err.ensures)

pub loop-before-preserved : goal.loop-before-preserved
loop-before-preserved c =
    let ms = c.args.pairs.now in
    let i = c.loop-before.before in
    let m = c.index-pairs-before.result in
    map-next job_entry i (job_view c.loop-before.job) (pair_view m) (pairs_view (drop (i + 1) ms)) (pairs_view (drop i ms)) (job_view c.enter.new.job) (λ p. job_from p c.args.name.now (pairs_view ms))
    (step pair_view ms i m c.loop-before-test.true c.index-pairs-before.is) c.loop-before.invariant (cc (c.as_str.ensures, c.in-Ok.ensures))
