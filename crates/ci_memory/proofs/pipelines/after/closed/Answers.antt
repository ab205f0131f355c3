use Rattle.std.proofs.Common.{sym, ap, subst, ◌∙◌, not, ◌==◌, filter}
use Rattle.ci_machine_steps.specs.Prelude.{without_open}
use Rattle.ci_memory.specs.Known.{Known}
use Rattle.ci_memory.specs.Alone.{Accounts}
use Rattle.ci_memory.proofs.Covers.{covers, accounts, after_close}
use Rattle.ci_memory.proofs.pipelines.after.closed.Goals as goal

-- it is in neither list
pub returns : goal.returns
returns c = λ k before.
    let o = c.args.known in
    let was = c.known.view_is in
    let n = c.args.pipeline in
    subst (λ (known : Known). Accounts known (record k { unfinished = without_open n k.unfinished }))
    (λ i. record {
      alone = sym (c.take_out.ensures ∙ ap (λ (known : Known). filter (λ p. not (p.id == n)) known.alone) was) i;
      suspects = sym (c.take_number_out.ensures ∙ ap (λ (known : Known). filter (λ m. not (m == n)) known.suspects) was) i;
    })
    (accounts (record { alone = filter (λ p. not (p.id == n)) o.alone; suspects = filter (λ m. not (m == n)) o.suspects }) _ (after_close n k.state.pipelines k.unfinished o.alone o.suspects (covers o k before)))
