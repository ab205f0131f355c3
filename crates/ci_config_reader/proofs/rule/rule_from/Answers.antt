use Rattle.std.proofs.Common.{◌+◌, drop, subst}
use Rattle.ci_config.specs.Prelude.{value_view, rule_entry, rule_from, pair_view, pairs_view, rule_view}
use Rattle.ci_config_reader.specs.Answer.{builds_with}
use Rattle.ci_config_reader.proofs.Telling.{Fails, map-next, map-fails}
use Rattle.ci_config_reader.proofs.Trees.{step}
use Rattle.ci_config_reader.proofs.rule.rule_from.Goals as goal

pub returns-in-Err : goal.returns-in-Err
returns-in-Err c =
    let ms = c.args.pairs.now in
    let i = c.loop-before.before in
    let m = c.index-pairs-before.result in
    let e = c.in-Err.fault in
    map-fails rule_entry i (rule_view c.loop-before.rule) (pair_view m) (pairs_view (drop (i + 1) ms)) (pairs_view (drop i ms)) (λ p. rule_from p (pairs_view ms)) e c.within.result
    (step pair_view ms i m c.loop-before-test.true c.index-pairs-before.is) c.loop-before.invariant c.within.ensures
    (subst (λ key. Fails e (rule_entry (builds_with e) (key, value_view m.1) (rule_view c.loop-before.rule))) c.as_str.ensures c.in-Err.ensures)

pub loop-before-preserved : goal.loop-before-preserved
loop-before-preserved c =
    let ms = c.args.pairs.now in
    let i = c.loop-before.before in
    let m = c.index-pairs-before.result in
    map-next rule_entry i (rule_view c.loop-before.rule) (pair_view m) (pairs_view (drop (i + 1) ms)) (pairs_view (drop i ms)) (rule_view c.enter.new.rule) (λ p. rule_from p (pairs_view ms))
    (step pair_view ms i m c.loop-before-test.true c.index-pairs-before.is) c.loop-before.invariant (cc (c.as_str.ensures, c.in-Ok.ensures))
