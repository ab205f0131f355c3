use Rattle.std.proofs.Common.{◌≡◌, Ok, subst}
use Rattle.ci_config.specs.Prelude.{stage_in, list_of, value_view, text_view, words_view}
use Rattle.ci_config_reader.proofs.Telling.{Fails, item-fails, item-next}
use Rattle.ci_config_reader.proofs.file.stages_of.Goals as goal

pub returns-in-Err : goal.returns-in-Err
returns-in-Err c =
    let done = c.loop-value.stages in
    item-fails value_view text_view stage_in c.in_ok-values.values.now c.loop-value.value-index c.value-item.result c.loop-value-test.true c.value-item.is done c.loop-value.invariant
    (list_of (value_view c.args.tree.now)) c.in-Err.fault c.within.result c.len.result c.in_ok-values.ensures c.len.ensures c.within.ensures
    (subst (λ names. Fails c.in-Err.fault (stage_in (words_view names) (value_view c.value-item.result))) c.as_slice.ensures.value c.in-Err.ensures)

pub loop-value-preserved : goal.loop-value-preserved
loop-value-preserved c =
    let done = c.loop-value.stages in
    item-next value_view text_view stage_in c.in_ok-values.values.now c.loop-value.value-index c.value-item.result c.loop-value-test.true c.value-item.is done c.loop-value.invariant
    c.in-Ok.stage c.push.new.self (subst (λ names. stage_in (words_view names) (value_view c.value-item.result) ≡ Ok (text_view c.in-Ok.stage)) c.as_slice.ensures.value c.in-Ok.ensures) c.in_ok-push-in-Ok.ensures.items
