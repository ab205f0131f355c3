use Rattle.std.proofs.Common.{◌≡◌, Result, drop, map}
use Rattle.ci_config.specs.Prelude.{words_view, Config, Placed, jobs_judged, pairs_view, job_view}
use Rattle.ci_config_reader.proofs.file.jobs_fault.Given as goal

abbrev pub invariant-loop-job : goal.invariant-loop-job
invariant-loop-job l = (next : Result Config Placed) → jobs_judged (pairs_view l.pairs) (words_view l.stages) (map job_view (drop l.job-index l.jobs)) next ≡ jobs_judged (pairs_view l.pairs) (words_view l.stages) (map job_view l.jobs) next
