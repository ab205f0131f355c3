use Rattle.std.proofs.Common.{Option, Result, ap, ◌∙◌}
use Rattle.std.specs.Result.{result_map_both}
use Rattle.ci_machine_steps.specs.Prelude.{Project, Code, asked_project}
use Rattle.ci_machine_steps.specs.Modes as machine
use Rattle.ci_server_lookups.proofs.Loading.{yields}
use Rattle.ci_server_events.proofs.Leaving.{leaves_so, mode_leaves}
use Rattle.ci_server_events.proofs.modes.set_mode.Goals as goal

pub of_records-requires : goal.of_records-requires
of_records-requires g c = λ s. leaves_so s _ _ c.in_ok-plan.ensures (mode_leaves s (result_map_both (λ p. p.now) (λ e. e) c.asked-found.result) c.args.new)

-- the project that was looked up is the one that is named
pub returns : goal.returns
returns g c =
    let new = c.args.new in
    yields c.in_ok-project.was c.project_with.ensures
    (λ k project kept. record {
      made = c.of_records.ensures.plan
          ∙ (c.in_ok-plan.ensures ∙ ap (λ (q : Result Project Code). machine.set_mode q new) (c.asked-found.ensures ∙ ap (λ (o : Option Project). asked_project o new.project) project));
      settled = c.of_records.ensures.settled k kept;
    })
