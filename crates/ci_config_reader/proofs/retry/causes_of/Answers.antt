use Rattle.std.proofs.Common.{◌+◌, drop, sym, ap, subst, if◌then◌else◌}
use Rattle.ci_config.specs.Prelude.{cause_in, no_causes, entries, list_of, value_view, values_view, ◌>>=◌}
use Rattle.ci_config_reader.proofs.Telling.{Fails, fails-same, entries-fails, entries-next}
use Rattle.ci_config_reader.proofs.Trees.{step}
use Rattle.ci_config_reader.proofs.retry.causes_of.Goals as goal

pub returns-in-Err : goal.returns-in-Err
returns-in-Err c =
    let v = value_view c.args.tree.now in
    let vs = c.in_ok-values.values.now in
    let i = c.loop-before.before in
    let x = c.index-values-before.result in
    let whole = entries (λ before. cause_in) 0 no_causes (values_view vs) in
    subst (λ b. Fails c.within.result (if b then cause_in v no_causes else (list_of v >>= λ ys. entries (λ before. cause_in) 0 no_causes ys))) c.if-is_text.ensures
    (fails-same c.within.result whole (list_of v >>= λ ys. entries (λ before. cause_in) 0 no_causes ys) (sym (ap (λ r. r >>= λ ys. entries (λ before. cause_in) 0 no_causes ys) c.in_ok-values.ensures))
    (entries-fails (λ before. cause_in) i c.loop-before.set (value_view x) (values_view (drop (i + 1) vs)) (values_view (drop i vs)) whole c.in-Err.fault c.within.result
    (step value_view vs i x c.loop-before-test.true c.index-values-before.is) c.loop-before.invariant c.within.ensures c.in-Err.ensures))

pub loop-before-preserved : goal.loop-before-preserved
loop-before-preserved c =
    let vs = c.in_ok-values.values.now in
    let i = c.loop-before.before in
    let x = c.index-values-before.result in
    entries-next (λ before. cause_in) i c.loop-before.set (value_view x) (values_view (drop (i + 1) vs)) (values_view (drop i vs)) c.in-Ok.more (entries (λ before. cause_in) 0 no_causes (values_view vs))
    (step value_view vs i x c.loop-before-test.true c.index-values-before.is) c.loop-before.invariant c.in-Ok.ensures
