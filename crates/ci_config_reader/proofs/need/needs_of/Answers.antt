use Rattle.ci_config.specs.Prelude.{need_of, list_of, value_view, need_view}
use Rattle.ci_config_reader.proofs.Telling.{item-fails, item-next}
use Rattle.ci_config_reader.proofs.need.needs_of.Goals as goal

pub returns-in-Err : goal.returns-in-Err
returns-in-Err c =
    let done = c.loop-value.needs in
    item-fails value_view need_view need_of c.in_ok-values.values.now c.loop-value.value-index c.value-item.result c.loop-value-test.true c.value-item.is done c.loop-value.invariant
    (list_of (value_view c.args.tree.now)) c.in-Err.fault c.within.result c.len.result c.in_ok-values.ensures c.len.ensures c.within.ensures
    c.in-Err.ensures

pub loop-value-preserved : goal.loop-value-preserved
loop-value-preserved c =
    let done = c.loop-value.needs in
    item-next value_view need_view need_of c.in_ok-values.values.now c.loop-value.value-index c.value-item.result c.loop-value-test.true c.value-item.is done c.loop-value.invariant
    c.in-Ok.need c.push.new.self c.in-Ok.ensures c.in_ok-push-in-Ok.ensures.items
