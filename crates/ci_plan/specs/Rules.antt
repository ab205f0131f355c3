-- Which jobs of a file a pipeline doesn't have, and why.
use Rattle.std.specs.Prelude.{ℕ, List, [], ◌∷◌, Option, Some, None}
use Rattle.ci_graph_layout.specs.Prelude.{Decided, Decision, NoRules, ByRule, NoneMatches, IncludedJob, by_rules, put}
use Rattle.ci_plan.specs.declared.records.LeftOut.{LeftOut}

-- the number of the rule that decides, if one does
abbrev pub number_of : Decision → Option ℕ
number_of NoRules = None
number_of (ByRule k r) = Some k
number_of NoneMatches = None

-- what is told of a job that isn't included
abbrev pub unless_included : Decided → Option IncludedJob → Option LeftOut
unless_included d (Some i) = None
unless_included d None = Some (record { name = d.job.name; rule = number_of d.decision })

abbrev pub leaves_out : Decided → Option LeftOut
leaves_out d = unless_included d (by_rules d.job d.decision)

-- those of these jobs that the pipeline doesn't have, in their order
abbrev pub left_out : List Decided → List LeftOut
left_out [] = []
left_out (d ∷ ds) = put (leaves_out d) (left_out ds)
