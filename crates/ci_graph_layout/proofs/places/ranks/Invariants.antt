use Rattle.std.proofs.Common.{◌≡◌, ◌++◌, drop, map}
use Rattle.ci_graph_layout.specs.Prelude.{words_view, ranks, included_view}
use Rattle.ci_graph_layout.proofs.places.ranks.Given as goal

abbrev pub invariant-loop-job : goal.invariant-loop-job
invariant-loop-job l = l.found.items ++ ranks (words_view l.fn.stages) (map included_view (drop l.job-index l.jobs)) ≡ ranks (words_view l.fn.stages) (map included_view l.jobs)
