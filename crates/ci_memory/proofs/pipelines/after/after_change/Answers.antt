use Rattle.std.proofs.Common.{sym, ap, subst, ◌∙◌, List, option_copied}
use Rattle.std.proofs.lemmas.Option.{IfSome_then}
use Rattle.ci_machine_steps.specs.Prelude.{Pipeline, RowChange, Record, Kept, changed, with_record}
use Rattle.ci_memory.specs.Known.{Known}
use Rattle.ci_memory.specs.Alone.{Accounts, IsRight}
use Rattle.ci_memory.proofs.Covers.{Covers, covers, accounts}
use Rattle.ci_memory.proofs.Stays.{put_is, removed_is, pipelines_stay, kept_ok}
use Rattle.ci_memory.proofs.pipelines.after.after_change.Goals as goal

-- a pipeline is removed
pub returns-in-Some : goal.returns-in-Some
returns-in-Some c = λ k before.
    let is = removed_is c.args.change.now c.in-Some.number (sym c.removed_pipeline.ensures ∙ c.in-Some.is) in
    subst (λ (x : RowChange). IsRight c.after_removal.result (record k { state = changed x k.state })) (sym is) (c.after_removal.ensures k before)

-- a pipeline is put
pub returns-in-Some-put_pipeline : goal.returns-in-Some-put_pipeline
returns-in-Some-put_pipeline c = λ k before.
    let o = c.args.known in
    let q = c.in-Some-put_pipeline.pipeline.now in
    let IsAfter : Known → Type 0 = λ after. (k : Kept) → Accounts o k → Accounts after (record k { state = with_record (Record.Pipeline q) k.state }) in
    let is = put_is c.args.change.now q (sym c.put_pipeline.ensures ∙ ap option_copied c.in-Some-put_pipeline.is) in
    subst (λ (x : RowChange). IsRight c.ok.result (record k { state = changed x k.state })) (sym is)
    (IfSome_then c.ok.result (kept_ok IsAfter c.after_put.result c.ok.result c.ok.ensures.value c.after_put.ensures) (λ after f. f k before))

-- the pipelines stay
pub returns-in-None : goal.returns-in-None
returns-in-None c = λ k before.
    let o = c.args.known in
    let stay = pipelines_stay c.args.change.now k.state (sym c.put_pipeline.ensures ∙ ap option_copied c.in-None.is) (sym c.removed_pipeline.ensures ∙ c.in_default.is) in
    accounts o (record k { state = changed c.args.change.now k.state }) (subst (λ (ps : List Pipeline). Covers ps k.unfinished o.alone o.suspects) (sym stay) (covers o k before))
