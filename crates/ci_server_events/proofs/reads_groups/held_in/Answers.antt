use Rattle.std.proofs.Common.{[], List, ap, ◌∙◌}
use Rattle.ci_machine_steps.specs.Prelude.{Holder}
use Rattle.ci_server_events.specs.Groups.{all_put}
use Rattle.ci_server_lookups.proofs.Loading.{yields}
use Rattle.ci_server_events.proofs.GroupLists.{held_same}
use Rattle.ci_server_events.proofs.reads_groups.held_in.Goals as goal

-- the rows of the project, by their attempts
pub returns : goal.returns
returns g c =
    yields c.in_ok-rows.was c.holders_in.ensures
    (λ k rows kept.
    c.in_ok-held.ensures ∙ ap (λ (hs : List Holder). all_put hs []) (c.as_slice.ensures.value ∙ rows) ∙ held_same k.state k.holders c.args.project kept.sound kept.are_indexes.held)
