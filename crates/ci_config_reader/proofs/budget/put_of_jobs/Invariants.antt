use Rattle.ci_config.specs.Prelude.{patterns_view, same_pattern, job_patterns}
use Rattle.ci_expr.proofs.Gathering.{Gathered}
use Rattle.ci_config_reader.proofs.budget.put_of_jobs.Given as goal

abbrev pub invariant-loop-job : goal.invariant-loop-job
invariant-loop-job l = Gathered same_pattern job_patterns (patterns_view l.fn.patterns.items) l.jobs l.job-index (patterns_view l.patterns.items)
