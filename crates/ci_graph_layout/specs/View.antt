-- What the code has, without where it lies in memory.
use Rattle.std.specs.Prelude.{List, map}
use Rattle.std.specs.Global.{Vec}
use Rattle.ci_config.specs.Prelude.{layer_view, job_view, rule_view}
use Rattle.ci_graph_layout.specs.Inclusion as inclusion
use Rattle.ci_graph_layout.specs.declared.given.Given.{Given}
use Rattle.ci_graph_layout.specs.declared.inclusion.Decision.{Decision}
use Rattle.ci_graph_layout.specs.declared.inclusion.Decided.{Decided}
use Rattle.ci_graph_layout.specs.declared.inclusion.IncludedJob.{IncludedJob}

abbrev pub given_view : Given → inclusion.Given
given_view g = record { pipeline = layer_view g.pipeline.now; project = layer_view g.project.now; predefined = layer_view g.predefined.now }

abbrev pub decision_view : Decision → inclusion.Decision
decision_view Decision.NoRules = inclusion.NoRules
decision_view (Decision.ByRule number rule) = inclusion.ByRule number (rule_view rule.now)
decision_view Decision.NoneMatches = inclusion.NoneMatches

abbrev pub decided_view : Decided → inclusion.Decided
decided_view d = record { job = job_view d.job.now; decision = decision_view d.decision }

abbrev pub included_view : IncludedJob → inclusion.IncludedJob
included_view i = record { job = job_view i.job.now; rule = i.rule; «when» = i.«when»; allow_failure = i.allow_failure; variables = layer_view i.variables.items }

abbrev pub lineup_view : Vec IncludedJob → List inclusion.IncludedJob
lineup_view v = map included_view v.items
