-- What a graph has of the jobs of a pipeline.
use Rattle.std.specs.Prelude.{Bool, true, false, List, map, length, Option, Some, None, unwrap_or}
use Rattle.ci_config.specs.Prelude.{Retry, Need}
use Rattle.ci_graph.specs.JobGraph.{no_causes}
use Rattle.ci_graph.specs.Pairs.{AreWithin, IsAcyclic}
use Rattle.ci_graph.specs.declared.part.Part.{Part}
use Rattle.ci_graph_layout.specs.Inclusion.{IncludedJob}
use Rattle.ci_graph_layout.specs.Fault.{Plan}

-- a job that doesn't say how often is never tried again by itself
abbrev pub no_retry : Retry
no_retry = record { max = 0; causes = no_causes }

-- an empty list of needs is given too
abbrev pub is_given : Option (List Need) → Bool
is_given None = false
is_given (Some ns) = true

-- what the status of an included job depends on
abbrev pub job_part : IncludedJob → Part
job_part i = record { «when» = i.«when»; allow_failure = i.allow_failure; retry = unwrap_or i.job.retry no_retry; gives_needs = is_given i.job.needs }

abbrev pub parts : List IncludedJob → List Part
parts is = map job_part is

-- the pairs are of the plan's jobs, and no walk along them returns to its start
pub record CanBeGraph (p : Plan) : Type 0 where
  pub within : AreWithin (length p.jobs) p.pairs
  pub acyclic : IsAcyclic p.pairs
