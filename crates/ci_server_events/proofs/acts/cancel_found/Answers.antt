use Rattle.std.proofs.Common.{◌≡◌, Some, subst, sym, ◌∙◌}
use Rattle.std.proofs.lemmas.Result.{IfOk-at_ok}
use Rattle.ci_machine_steps.specs.Prelude.{Pipeline, CancelsSome, cancellable_jobs}
use Rattle.ci_server_lookups.specs.Prelude.{IsWhole}
use Rattle.ci_server_events.specs.Planning.{PlansFor}
use Rattle.ci_server_lookups.proofs.Loading.{leads}
use Rattle.ci_server_events.proofs.Acting.{pipeline_there}
use Rattle.ci_server_events.proofs.acts.cancel_found.Goals as goal

-- what was looked up is the pipeline
pub returns : goal.returns
returns g c =
    let p = c.args.pipeline.now in
    let w = c.in_ok-whole.whole in
    leads c.in_ok-whole.was c.whole_of.ensures
    (λ k y is whole kept has.
    let both : Some w.pipeline ≡ Some p = sym (whole kept).there ∙ pipeline_there k.state p kept.sound has in
    let same : w.pipeline ≡ p = cc in
    subst (λ (q : Pipeline). PlansFor k (CancelsSome k.state q (cancellable_jobs k.state k.board q.id) (y.answer, y.changes)) y) same
    (IfOk-at_ok _ is c.cancelled.ensures k kept (subst (λ (q : Pipeline). IsWhole k q.id w) (sym same) (whole kept))))
