use Rattle.std.proofs.Common.{◌≡◌, ℕ, List, Option, map, find, option_map, ap, ◌∙◌}
use Rattle.serde_json.specs.Data.{Data, array}
use Rattle.serde_json.specs.View.{items_of}
use Rattle.ci_machine_steps.specs.Prelude.{GroupMode, Holder, Code, holds, order_of, holders, holders_in, group_data, State, modes_in, json, with_names, group_names, group_read}
use Rattle.ci_machine_statuses.proofs.Puts.{map_same}
use Rattle.ci_machine_plans.specs.Objects.{told_group}
use Rattle.ci_server_events.specs.Groups.{job_holding, group_by}
use Rattle.ci_server_lookups.proofs.Loading.{yields, joined}
use Rattle.ci_server_events.proofs.GroupLists.{found_in, holding_by}
use Rattle.ci_server_events.proofs.Telling.{ok_alike}
use Rattle.ci_server_events.proofs.reads_groups.groups.Goals as goal

-- a group is told by the rows of the project as by those of the state
group_same : (s : State) (project : ℕ) (group : List ℕ) → group_by s project (holders_in project (holders s)) s.modes group ≡ group_read s project group
group_same s project group =
    ap (group_data group (order_of s.modes project group))
    (ap (λ (o : Option Holder). job_holding s (option_map (λ (h : Holder). h.attempt) o)) (found_in s project group) ∙ holding_by s (find (holds project group) (holders s)))

-- what was looked up are the modes, and what live attempts hold of the project
pub returns : goal.returns
returns g c =
    let p = c.args.project.now.id in
    let body = c.in_ok-body.body in
    let held = c.in_ok-held.held in
    let modes = c.in_ok-modes.modes in
    let groups = c.in_ok-groups.groups in
    yields c.in_ok-groups.was
    (joined c.in_ok-modes.was c.modes.ensures
    (joined c.in_ok-held.was c.held_in.ensures c.told.ensures))
    (λ k found kept.
    let s = k.state in
    let own : held.items ≡ holders_in p (holders s) = found.1.0 kept in
    let held_are : c.as_slice-3.result.now ≡ holders_in p (holders s) = c.as_slice-3.ensures.value ∙ own in
    let modes_are : c.as_slice-4.result.now ≡ s.modes = c.as_slice-4.ensures.value ∙ found.0 in
    let names_are : c.as_slice-5.result.now ≡ group_names s p =
    c.as_slice-5.ensures.value ∙ c.in_ok-names.ensures
    ∙ (λ i. with_names (map (λ (h : Holder). h.group) ((c.as_slice.ensures.value ∙ own) i)) (map (λ (m : GroupMode). m.group) (modes_in p ((c.as_slice-2.ensures.value ∙ found.0) i)))) in
    let told : map told_group groups.items ≡ map (group_read s p) (group_names s p) =
    found.1.1 ∙ (λ i. map (group_by s p (held_are i) (modes_are i)) (names_are i)) ∙ map_same (group_by s p (holders_in p (holders s)) s.modes) (group_read s p) (group_names s p) (λ name _. group_same s p name) in
    ok_alike {E = Code} _ _
    (c.in_ok-body.ensures ∙ ap (λ (ds : List Data). json (array (items_of ds))) (ap (map told_group) c.as_slice-6.ensures.value ∙ told)))
