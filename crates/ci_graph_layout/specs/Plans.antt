-- What is answered where a plan is asked.
use Rattle.std.specs.Prelude.{◌≡◌, ℕ, List, Result, Ok, Err}
use Rattle.std.specs.Global.{Vec}
use Rattle.ci_graph.specs.Pairs.{HasCycle}
use Rattle.ci_config.specs.Config.{Text}
use Rattle.ci_config.specs.Prelude.{Config, ConfigLacksPatterns}
use Rattle.ci_graph_layout.specs.Inclusion.{Given, IncludedJob}
use Rattle.ci_graph_layout.specs.Fault as layout
use Rattle.ci_graph_layout.specs.Fault.{Plans}
use Rattle.ci_graph_layout.specs.Layout.{lineup, pairs}
use Rattle.ci_graph_layout.specs.View.{lineup_view}
use Rattle.ci_graph_layout.specs.declared.planning.PipelinePlan.{PipelinePlan}
use Rattle.ci_graph_layout.specs.declared.fault.GraphCode.TheVariants.{G3}
use Rattle.ci_graph_layout.specs.declared.fault.PlanFault.{PlanFault}
use Rattle.ci_graph_layout.specs.declared.fault.PlanFault.TheVariants.{Fault, Pattern, Memory}

abbrev pub plan_view : PipelinePlan → layout.Plan
plan_view p = record { jobs = lineup_view p.jobs; pairs = p.pairs.items }

-- the pairs of these jobs, or the first fault, of each file that includes them, with a circle where it is G3; or memory was refused
abbrev pub Orders : List Text → List IncludedJob → Result (Vec (ℕ × ℕ)) PlanFault → Type 0
Orders stages is (Ok found) = (g : Given) (c : Config) → stages ≡ c.stages → is ≡ lineup g c → Plans g c (Ok (record { jobs = is; pairs = found.items }))
Orders stages is (Err (Fault code)) = ((g : Given) (c : Config) → stages ≡ c.stages → is ≡ lineup g c → Plans g c (Err code)) × (code ≡ G3 → HasCycle (pairs stages is))
Orders stages is (Err Pattern) = ⊥
Orders stages is (Err Memory) = Unit {0}

-- the plan, or the first fault; or memory was refused, or a pattern of the file
abbrev pub Gives : Given → Config → Result PipelinePlan PlanFault → Type 0
Gives g c (Ok p) = Plans g c (Ok (plan_view p))
Gives g c (Err (Fault code)) = Plans g c (Err code)
Gives g c (Err Pattern) = ConfigLacksPatterns c → ⊥
Gives g c (Err Memory) = Unit {0}
