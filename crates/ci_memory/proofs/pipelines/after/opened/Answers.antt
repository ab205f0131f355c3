use Rattle.std.proofs.Common.{sym, ap, subst, ◌∙◌, ◌==◌, ◌++◌, ◌∷◌, []}
use Rattle.std.specs.List.{list_any}
use Rattle.ci_machine_steps.specs.Prelude.{with_open}
use Rattle.ci_memory.specs.Known.{Known}
use Rattle.ci_memory.specs.Alone.{Accounts}
use Rattle.ci_memory.proofs.Covers.{covers, accounts, after_open, after_open_again, has_number}
use Rattle.ci_memory.proofs.pipelines.after.opened.Goals as goal

-- it is a suspect already
pub returns-then-has_number : goal.returns-then-has_number
returns-then-has_number c = λ k before.
    let o = c.args.known in
    let n = c.args.pipeline in
    let is = ap (λ (known : Known). list_any (λ m. m == n) known.suspects) (sym c.known.view_is) ∙ (ap (list_any (λ m. m == n)) (sym c.as_slice.ensures.value) ∙ (sym c.has_number.ensures ∙ c.if-has_number.true)) in
    accounts o (record k { unfinished = with_open (record { pipeline = n }) k.unfinished })
    (after_open_again (record { pipeline = n }) k.state.pipelines k.unfinished o.alone o.suspects (covers o k before) (has_number n o.suspects is))

-- it is a suspect
pub returns : goal.returns
returns c = λ k before.
    let o = c.args.known in
    let was = c.known.view_is in
    let n = c.args.pipeline in
    subst (λ (known : Known). Accounts known (record k { unfinished = with_open (record { pipeline = n }) k.unfinished }))
    (λ i. record { alone = (sym was i).alone; suspects = sym (c.in_ok-push.ensures.items ∙ ap (λ (known : Known). known.suspects ++ n ∷ []) was) i })
    (accounts (record { alone = o.alone; suspects = o.suspects ++ n ∷ [] }) _ (after_open (record { pipeline = n }) k.state.pipelines k.unfinished o.alone o.suspects (covers o k before)))
