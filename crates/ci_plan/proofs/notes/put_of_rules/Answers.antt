use Rattle.ci_machine_steps.specs.Prelude.{layer_view}
use Rattle.ci_graph_layout.specs.Prelude.{values_view}
use Rattle.ci_plan.specs.Notes.{of_rules, each_once}
use Rattle.ci_plan.proofs.Noting.{rule_more}
use Rattle.ci_plan.proofs.notes.put_of_rules.Goals as goal

pub loop-i-preserved : goal.loop-i-preserved
loop-i-preserved c =
    let job = c.args.job.now in
    let seen = layer_view c.args.seen.now in
    rule_more job seen c.args.rules.now c.loop-i.i c.index-rules-i.result (each_once c.args.notes.now.items (of_rules job 1 seen (values_view c.args.rules.now)))
    c.loop-i.notes.items c.put_of_rule.new.notes.items c.loop-i-test.true c.index-rules-i.is c.in_ok-put_of_rule.ensures c.loop-i.invariant
