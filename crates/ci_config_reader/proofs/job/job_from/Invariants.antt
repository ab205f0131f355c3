use Rattle.std.proofs.Common.{drop}
use Rattle.ci_config.specs.Prelude.{job_entry, job_from, pairs_view, job_view}
use Rattle.ci_config_reader.proofs.Telling.{Leads, entries_by}
use Rattle.ci_config_reader.proofs.job.job_from.Given as goal

abbrev pub invariant-loop-before : goal.invariant-loop-before
invariant-loop-before l = Leads l.before (entries_by job_entry l.before (job_view l.job) (pairs_view (drop l.before l.pairs))) (λ p. job_from p l.fn.name (pairs_view l.pairs))
