use Rattle.ci_server_events.proofs.Leaving.{leaves_so, project_leaves}
use Rattle.ci_server_events.proofs.projects.add_project.Goals as goal

pub of_records-requires : goal.of_records-requires
of_records-requires g c = λ s. leaves_so s _ _ c.in_ok-plan.ensures (project_leaves s c.in_ok-next.next c.args.name c.args.seed)
