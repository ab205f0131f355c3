use Rattle.std.proofs.Common.{sym, ap, ◌∙◌, ◌≡◌, ◌==◌, false}
use Rattle.std.specs.List.{list_any}
use Rattle.ci_memory.specs.Known.{Known}
use Rattle.ci_memory.proofs.Covers.{covers, accounts, after_removal}
use Rattle.ci_memory.proofs.pipelines.after.after_removal.Goals as goal

-- it isn't one of those that are alone
pub returns : goal.returns
returns c = λ k before.
    let o = c.args.known in
    let none : list_any (λ p. p.id == c.args.number) o.alone ≡ false
    = ap (λ (known : Known). list_any (λ p. p.id == c.args.number) known.alone) (sym c.known.view_is)
    ∙ (ap (list_any (λ p. p.id == c.args.number)) (sym c.as_slice.ensures.value) ∙ (sym c.has_pipeline.ensures ∙ c.if-has_pipeline.false)) in
    accounts o _ (after_removal c.args.number k.state.pipelines o.alone none k.unfinished o.suspects (covers o k before))
