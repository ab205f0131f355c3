use Rattle.std.proofs.Common.{◌≡◌, ◌+◌, suc, List, [], ◌∷◌, ◌++◌, drop, drop-cons, Option, None, Some, option_map, refl, sym, ap, ◌∙◌, append_assoc, arith}
use Rattle.std.specs.Prelude.{option_and_then}
use Rattle.serde_json.specs.View.{items_view}
use Rattle.ci_machine.specs.declared.request.PipelineVariable.{PipelineVariable}
use Rattle.ci_http_messages.specs.Prelude.{each_variable}
use Rattle.ci_http_messages.proofs.payloads.creation.each_variable.Goals as goal

one-more : (vs : List PipelineVariable) (v : PipelineVariable) (more : Option (List PipelineVariable))
    → option_map (λ ws. vs ++ ws) (option_map (λ ws. v ∷ ws) more) ≡ option_map (λ ws. (vs ++ v ∷ []) ++ ws) more
one-more vs v None = refl
one-more vs v (Some ws) = ap (λ all. some all) (sym (append_assoc vs (v ∷ []) ws))
  where
    some : List PipelineVariable → Option (List PipelineVariable)
    some all = Some all

pub loop-entry-preserved : goal.loop-entry-preserved
loop-entry-preserved c =
    let es = c.args.entries.now in
    let i = c.loop-entry.entry-index in
    let e = c.entry-item.result in
    let vs = c.loop-entry.variables.items in
    let v = c.in_ok-variable.variable in
    let rest = drop (i + 1) es in
    let next : suc i ≡ i + 1 = omega arith in
    let there : drop i es ≡ e ∷ rest = drop-cons es i e c.loop-entry-test.true ∙ ap (λ x. x ∷ drop (suc i) es) (sym c.entry-item.is) ∙ ap (λ k. e ∷ drop k es) next in
    c.loop-entry.invariant ∙ ap (λ xs. option_map (λ ws. vs ++ ws) (each_variable (items_view xs))) there
    ∙ ap (λ found. option_map (λ ws. vs ++ ws) (option_and_then (λ one. option_map (λ ws. one ∷ ws) (each_variable (items_view rest))) found)) c.in_ok-variable.ensures.ok
    ∙ one-more vs v (each_variable (items_view rest))
    ∙ ap (λ us. option_map (λ ws. us ++ ws) (each_variable (items_view rest))) (sym c.in-Ok.ensures.items)
