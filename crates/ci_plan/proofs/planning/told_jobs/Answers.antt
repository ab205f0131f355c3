use Rattle.std.proofs.Common.{Err, sym, subst}
use Rattle.ci_graph_layout.specs.Prelude.{stages_of, jobs_of, Orders}
use Rattle.ci_graph_layout.specs.declared.fault.PlanFault.{PlanFault}
use Rattle.ci_plan.specs.Said.{GivesJobs}
use Rattle.ci_plan.proofs.Layouts.{gives_jobs, gives_fault}
use Rattle.ci_plan.proofs.planning.told_jobs.Goals as goal
use Rattle.ci_plan.proofs.planning.told_jobs.Goals.{in-Ok+in_ok-jobs-in-Ok, in-Err-Fault+in_ok-fault-in-Err-Fault, in-Err-Pattern, in-Err-Memory}

pub fault_of-requires-clause-circle : goal.fault_of-requires-clause-circle
fault_of-requires-clause-circle c =
    let orders = subst (λ (f : PlanFault). Orders (stages_of c.args.lineup.now) (jobs_of c.args.lineup.now) (Err f)) c.in-Err-Fault.field-0-is c.in-Err-Fault.ensures.orders in
    orders.1

pub returns : goal.returns
returns c =
    let stages = stages_of c.args.lineup.now in
    let is = jobs_of c.args.lineup.now in
    elim c.match-ordered.branch [
      | in-Ok+in_ok-jobs-in-Ok w ↦ subst (λ r. GivesJobs stages is r) (sym w.result-is) (gives_jobs stages is w.in-Ok.field-0 w.in_ok-jobs-in-Ok.jobs w.in-Ok.ensures.orders w.in_ok-jobs-in-Ok.ensures)
      | in-Err-Fault+in_ok-fault-in-Err-Fault w ↦
          let orders = subst (λ (f : PlanFault). Orders stages is (Err f)) w.in-Err-Fault.field-0-is w.in-Err-Fault.ensures.orders in
          subst (λ r. GivesJobs stages is r) (sym w.result-is)
          (gives_fault stages is w.in-Err-Fault.code w.in_ok-fault-in-Err-Fault.fault orders w.in_ok-fault-in-Err-Fault.ensures.code w.in_ok-fault-in-Err-Fault.ensures.about)
      | in-Err-Pattern w ↦ absurd (subst (λ (f : PlanFault). Orders stages is (Err f)) w.in-Err-Pattern.field-0-is w.in-Err-Pattern.ensures.orders)
      | in-Err-Memory w ↦ subst (λ r. GivesJobs stages is r) (sym w.result-is) tt
    ]
