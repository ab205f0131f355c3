use Rattle.std.proofs.Common.{◌≡◌, ◌+◌, Ok, length, drop, subst, arith, [], ◌∷◌, if◌then◌else◌}
use Rattle.ci_config.specs.Prelude.{each, exit_code_of, exit_code_in, list_of, value_view, values_view, IsWithin, ◌>>=◌}
use Rattle.ci_config_reader.proofs.Telling.{Fails, each-fails, each-next}
use Rattle.ci_config_reader.proofs.Trees.{step}
use Rattle.ci_config_reader.proofs.allow_failure.exit_codes_of.Goals as goal

pub returns-in-Err : goal.returns-in-Err
returns-in-Err c =
    let v = value_view c.args.tree.now in
    let vs = c.in_ok-values.values.now in
    let i = c.loop-value.value-index in
    let x = c.value-item.result in
    let codes = c.loop-value.codes in
    let ok = codes.ok.0 in
    let before : length codes.items ≡ c.len.result = omega (arith, ok, c.len.ensures) in
    let there : c.len-in-Err.result ≡ length codes.items = omega (arith, ok, c.len-in-Err.ensures) in
    let e = c.in-Err.fault in
    subst (λ b. Fails c.within.result (if b then (exit_code_of v >>= λ code. Ok (code ∷ [])) else (list_of v >>= λ ys. each exit_code_in [] ys))) c.if-is_number.ensures
    (each-fails exit_code_in codes.items (value_view x) (values_view (drop (i + 1) vs)) (values_view (drop i vs)) (values_view vs) (list_of v) e c.within.result
    (step value_view vs i x c.loop-value-test.true c.value-item.is) c.loop-value.invariant c.in_ok-values.ensures
    (subst (λ n. IsWithin n e c.within.result) there c.within.ensures) (c.in-Err.ensures codes.items before))

pub loop-value-preserved : goal.loop-value-preserved
loop-value-preserved c =
    let vs = c.in_ok-values.values.now in
    let i = c.loop-value.value-index in
    let x = c.value-item.result in
    let codes = c.loop-value.codes in
    let ok = codes.ok.0 in
    let before : length codes.items ≡ c.len.result = omega (arith, ok, c.len.ensures) in
    each-next exit_code_in codes.items c.push-in-Ok.new.self.items (value_view x) (values_view (drop (i + 1) vs)) (values_view (drop i vs)) c.in-Ok.code (each exit_code_in [] (values_view vs))
    (step value_view vs i x c.loop-value-test.true c.value-item.is) c.loop-value.invariant (c.in-Ok.ensures codes.items before) c.in_ok-push-in-Ok.ensures.items
