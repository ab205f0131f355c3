use Rattle.std.proofs.Common.{◌≡◌, Ok, subst}
use Rattle.ci_config.specs.Prelude.{variable_in, map_of, value_view, pair_view, variable_view, variables_view}
use Rattle.ci_config_reader.proofs.Telling.{Fails, item-fails, item-next}
use Rattle.ci_config_reader.proofs.Trees.{count-is}
use Rattle.ci_config_reader.proofs.value.variables_of.Goals as goal

pub returns-in-Err : goal.returns-in-Err
returns-in-Err c =
    let done = c.loop-pair.variables in
    item-fails pair_view variable_view variable_in c.in_ok-pairs.pairs.now c.loop-pair.pair-index c.pair-item.result c.loop-pair-test.true c.pair-item.is done c.loop-pair.invariant
    (map_of (value_view c.args.tree.now)) c.in-Err.fault c.within.result c.len-in-Err.result c.in_ok-pairs.ensures c.len-in-Err.ensures c.within.ensures
    (subst (λ key. Fails c.in-Err.fault (variable_in (variables_view done) (key, value_view c.pair-item.result.1))) c.as_str.ensures (c.in-Err.ensures (variables_view done) (count-is variable_view done c.len.result c.len.ensures)))

pub loop-pair-preserved : goal.loop-pair-preserved
loop-pair-preserved c =
    let done = c.loop-pair.variables in
    item-next pair_view variable_view variable_in c.in_ok-pairs.pairs.now c.loop-pair.pair-index c.pair-item.result c.loop-pair-test.true c.pair-item.is done c.loop-pair.invariant
    c.in-Ok.variable c.push.new.self (subst (λ key. variable_in (variables_view done) (key, value_view c.pair-item.result.1) ≡ Ok (variable_view c.in-Ok.variable)) c.as_str.ensures (c.in-Ok.ensures (variables_view done) (count-is variable_view done c.len.result c.len.ensures))) c.in_ok-push-in-Ok.ensures.items
