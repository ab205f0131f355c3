-- What is told of the jobs, by the layout.
use Rattle.std.proofs.Common.{◌≡◌, ℕ, zero, suc, ◌<◌, List, [], ◌∷◌, Ok, Err, map, length, slice_index_or, arith, refl, sym, ap, subst, ◌∙◌}
use Rattle.std.specs.Global.{Vec}
use Rattle.ci_graph_layout.specs.Prelude.{Text, Config, Given, IncludedJob as Meant, Plans, planned, Orders, included_view}
use Rattle.ci_graph_layout.specs.Fault as layout
use Rattle.ci_graph_layout.specs.declared.fault.GraphCode.{GraphCode}
use Rattle.ci_graph_layout.specs.declared.fault.PlanFault.{PlanFault}
use Rattle.ci_graph_layout.specs.declared.inclusion.IncludedJob.{IncludedJob}
use Rattle.ci_plan.specs.Planned.{name_at, planned_jobs}
use Rattle.ci_plan.specs.Faults.{code_of, IsAbout}
use Rattle.ci_plan.specs.Said.{laid_out, GivesJobs}
use Rattle.ci_plan.specs.declared.records.PlannedJob.{PlannedJob}
use Rattle.ci_plan.specs.declared.records.Fault.{Fault}

-- the name of a job at a position
pub named_at : (is : List IncludedJob) (k : ℕ) (i : IncludedJob) → k < length is → (slice_index_or is k i).job.now.name.now ≡ name_at (map included_view is) k
named_at [] k i lt = absurd (omega (arith, lt))
named_at (j ∷ is) zero i lt = refl
named_at (j ∷ is) (suc k) i lt = named_at is k i (omega (arith, lt))

laid : (g : Given) (c : Config) (p : layout.Plan) → Plans g c (Ok p) → Plans g c (Ok (laid_out g c))
laid g c p (planned none acyclic) = planned none acyclic

module _ (stages : List Text) (is : List Meant) where
  pub gives_jobs : (found : Vec (ℕ × ℕ)) (jobs : List PlannedJob) → Orders stages is (Ok found) → jobs ≡ planned_jobs stages is → GivesJobs stages is (Ok (Ok jobs))
  gives_jobs found jobs orders told = λ g c e f. (
    laid g c (record { jobs = is; pairs = found.items }) (orders g c e f),
    told ∙ ap (λ (ss : List Text). planned_jobs ss is) e ∙ ap (λ (js : List Meant). planned_jobs c.stages js) f,
  )

  pub gives_fault : (code : GraphCode) (fault : Fault) → Orders stages is (Err (PlanFault.Fault code)) → code_of fault ≡ code → IsAbout stages is fault → GivesJobs stages is (Ok (Err fault))
  gives_fault code fault orders same about = λ g c e f. (
    subst (λ (k : GraphCode). Plans g c (Err k)) (sym same) (orders.0 g c e f),
    subst (λ (js : List Meant). IsAbout c.stages js fault) f (subst (λ (ss : List Text). IsAbout ss is fault) e about),
  )
