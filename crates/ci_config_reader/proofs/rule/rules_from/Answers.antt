use Rattle.std.proofs.Common.{◌+◌, drop, sym, subst}
use Rattle.ci_config.specs.Prelude.{value_view, IsWithin, rule_of, rules_from, values_view, rule_view, rules_view}
use Rattle.ci_config_reader.proofs.Telling.{list-fails}
use Rattle.ci_config_reader.proofs.Trees.{step, count-is}
use Rattle.ci_config_reader.proofs.rule.rules_from.Goals as goal

pub returns-in-Err : goal.returns-in-Err
returns-in-Err c =
    let vs = c.args.values.now in
    let i = c.loop-value.value-index in
    let v = c.value-item.result in
    let done = rules_view c.loop-value.rules in
    let e = c.in-Err.fault in
    list-fails rule_of done (value_view v) (values_view (drop (i + 1) vs)) (values_view (drop i vs)) (λ p. rules_from p (values_view vs)) e c.within.result
    (step value_view vs i v c.loop-value-test.true c.value-item.is) c.loop-value.invariant
    (subst (λ n. IsWithin n e c.within.result) (sym (count-is rule_view c.loop-value.rules c.len-in-Err.result c.len-in-Err.ensures)) c.within.ensures)
    (c.in-Err.ensures done (count-is rule_view c.loop-value.rules c.len.result c.len.ensures))
