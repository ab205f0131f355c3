use Rattle.std.proofs.Common.{[]}
use Rattle.ci_graph_layout.specs.Prelude.{looks_view, same_look, job_looks, given_view}
use Rattle.ci_expr.proofs.Gathering.{Gathered}
use Rattle.ci_graph_layout.proofs.searches.looks.Given as goal

abbrev pub invariant-loop-job : goal.invariant-loop-job
invariant-loop-job l = Gathered same_look (job_looks (given_view l.fn.given) l.fn.config) [] l.fn.config.jobs.items l.job-index (looks_view l.looks.items)
