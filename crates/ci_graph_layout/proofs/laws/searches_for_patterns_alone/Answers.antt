use Rattle.ci_graph_layout.proofs.Searching.{no-search}
use Rattle.ci_graph_layout.proofs.laws.searches_for_patterns_alone.Goals as goal

pub returns : goal.returns
returns c = no-search c.costs_nothing_without_patterns.ensures.search
