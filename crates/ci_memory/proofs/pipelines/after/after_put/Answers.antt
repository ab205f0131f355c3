use Rattle.std.proofs.Common.{sym, ap, subst, ◌∙◌, ◌≡◌, false, not, List, ◌++◌, map, filter}
use Rattle.std.specs.List.{list_any}
use Rattle.ci_machine_steps.specs.Prelude.{Pipeline, Record, with_record}
use Rattle.ci_memory.specs.Known.{Known}
use Rattle.ci_memory.specs.Alone.{Accounts}
use Rattle.ci_memory.specs.Changes.{is_unsettled}
use Rattle.ci_machine.proofs.Found.{any_none}
use Rattle.ci_memory.proofs.Covers.{covers, accounts, after_put, after_put_alone}
use Rattle.ci_memory.proofs.pipelines.after.after_put.Goals as goal

pub returns-then-not-is_any_unsettled : goal.returns-then-not-is_any_unsettled
returns-then-not-is_any_unsettled c = λ k before.
    let o = c.args.known in
    let q = c.args.pipeline.now in
    let was = c.known.view_is in
    let none : list_any (is_unsettled q) o.alone ≡ false
    = ap (λ (known : Known). list_any (is_unsettled q) known.alone) (sym was)
    ∙ (ap (list_any (is_unsettled q)) (sym c.as_slice.ensures.value) ∙ (sym c.is_any_unsettled.ensures ∙ c.if-not-is_any_unsettled.true)) in
    accounts o _ (after_put_alone q k.state.pipelines k.unfinished o.alone o.suspects (covers o k before) (λ p h. any_none (is_unsettled q) p o.alone none h))

-- those of which it is a newer one are suspects
pub returns : goal.returns
returns c = λ k before.
    let o = c.args.known in
    let q = c.args.pipeline.now in
    let was = c.known.view_is in
    subst (λ (known : Known). Accounts known (record k { state = with_record (Record.Pipeline q) k.state }))
    (λ i. record {
      alone = sym (c.settle.ensures ∙ ap (λ (known : Known). filter (λ p. not (is_unsettled q p)) known.alone) was) i;
      suspects = sym (c.in_ok-suspect.ensures ∙ ap (λ (l : List Pipeline). c.known.inside.suspects.items ++ map (λ p. p.id) (filter (is_unsettled q) l)) c.as_slice-2.ensures.value ∙ ap (λ (known : Known). known.suspects ++ map (λ p. p.id) (filter (is_unsettled q) known.alone)) was) i;
    })
    (accounts (record { alone = filter (λ p. not (is_unsettled q p)) o.alone; suspects = o.suspects ++ map (λ p. p.id) (filter (is_unsettled q) o.alone) }) _
    (after_put q k.state.pipelines k.unfinished o.alone o.suspects (covers o k before)))
