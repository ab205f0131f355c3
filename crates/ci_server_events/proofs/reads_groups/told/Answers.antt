use Rattle.std.proofs.Common.{map, refl, ap, arith, ◌∙◌}
use Rattle.std.proofs.lemmas.List.{take_all}
use Rattle.ci_server_lookups.proofs.Loading.{both_yield, yields}
use Rattle.ci_server_events.specs.Groups.{group_by}
use Rattle.ci_server_events.proofs.GroupLists.{told_more}
use Rattle.ci_server_events.proofs.reads_groups.told.Goals as goal

-- the next group is told behind those before it
pub loop-name-preserved : goal.loop-name-preserved
loop-name-preserved g c =
    both_yield refl c.in_ok-group.was c.loop-name.invariant c.told_one.ensures
    (λ k before one. told_more (group_by k.state c.args.project c.args.held.now c.args.modes.now) c.args.names.now c.loop-name.name-index c.name-item.result c.in_ok-group.group c.loop-name.groups.items c.push.new.self.items (omega arith) c.name-item.is one c.in_ok-push.ensures.items before)

-- all are told
pub returns : goal.returns
returns g c =
    yields refl c.loop-name.invariant
    (λ k before. before ∙ ap (map (group_by k.state c.args.project c.args.held.now c.args.modes.now)) (take_all c.loop-name.name-index c.args.names.now c.loop-name-test.false))
