use Rattle.ci_config.specs.Prelude.{name_in, list_of, value_view, text_view, texts_view}
use Rattle.ci_config_reader.proofs.Telling.{item-fails, item-next}
use Rattle.ci_config_reader.proofs.Trees.{count-is}
use Rattle.ci_config_reader.proofs.value.names_of.Goals as goal

pub returns-in-Err : goal.returns-in-Err
returns-in-Err c =
    let done = c.loop-value.names in
    item-fails value_view text_view (name_in c.args.limit) c.in_ok-values.values.now c.loop-value.value-index c.value-item.result c.loop-value-test.true c.value-item.is done c.loop-value.invariant
    (list_of (value_view c.args.tree.now)) c.in-Err.fault c.within.result c.len-in-Err.result c.in_ok-values.ensures c.len-in-Err.ensures c.within.ensures
    (c.in-Err.ensures (texts_view done) (count-is text_view done c.len.result c.len.ensures))

pub loop-value-preserved : goal.loop-value-preserved
loop-value-preserved c =
    let done = c.loop-value.names in
    item-next value_view text_view (name_in c.args.limit) c.in_ok-values.values.now c.loop-value.value-index c.value-item.result c.loop-value-test.true c.value-item.is done c.loop-value.invariant
    c.in-Ok.name c.push.new.self (c.in-Ok.ensures (texts_view done) (count-is text_view done c.len.result c.len.ensures)) c.in_ok-push-in-Ok.ensures.items
