use Rattle.std.proofs.Common.{◌+◌, ℕ, Result, [], ◌∷◌, drop, map, sym, ◌∙◌, ap}
use Rattle.ci_config.specs.Prelude.{words_view, Config, Placed, code_view, index_of, jobs_judged, fails_at, pairs_view, job_view}
use Rattle.ci_config_reader.proofs.Trees.{next-job}
use Rattle.ci_config_reader.proofs.file.jobs_fault.Goals as goal

pub returns-in-Some : goal.returns-in-Some
returns-in-Some c = λ next.
    let ms = pairs_view c.args.pairs.now in
    let stages = words_view c.args.stages.now in
    let js = c.args.jobs.now in
    let i = c.loop-job.job-index in
    let j = c.job-item.result in
    let at : ℕ → Result Config Placed = λ n. fails_at (n ∷ []) (code_view c.in-Some.code) in
    sym (c.loop-job.invariant next) ∙ next-job ms stages js i j c.loop-job-test.true c.job-item.is next
    ∙ c.in-Some.ensures (index_of ms (job_view j).name) (jobs_judged ms stages (map job_view (drop (i + 1) js)) next) ∙ sym (ap at c.index_of.ensures)

pub loop-job-preserved : goal.loop-job-preserved
loop-job-preserved c = λ next.
    let ms = pairs_view c.args.pairs.now in
    let stages = words_view c.args.stages.now in
    let js = c.args.jobs.now in
    let i = c.loop-job.job-index in
    let j = c.job-item.result in
    sym (c.in-None.ensures (index_of ms (job_view j).name) (jobs_judged ms stages (map job_view (drop (i + 1) js)) next))
    ∙ sym (next-job ms stages js i j c.loop-job-test.true c.job-item.is next) ∙ c.loop-job.invariant next
