use Rattle.std.proofs.Common.{subst, take, List, IfSome}
use Rattle.std.proofs.lemmas.List.{take_all}
use Rattle.ci_machine_steps.specs.Prelude.{Kept, indexed, indexed_all, IndexChange}
use Rattle.ci_memory.specs.Known.{Known}
use Rattle.ci_memory.specs.Alone.{Accounts}
use Rattle.ci_memory.proofs.Stays.{indexed_more, kept_ok}
use Rattle.ci_memory.proofs.pipelines.after.after_indexes.Goals as goal

pub loop-change-preserved : goal.loop-change-preserved
loop-change-preserved c = λ k before.
    let changes = c.args.changes.now in
    let i = c.loop-change.change-index in
    let change = c.change-item.result in
    let IsAfter : Known → Type 0 = λ after. (k : Kept) → Accounts c.loop-change.known k → Accounts after (indexed change k) in
    let one = subst (λ z. IfSome z IsAfter) c.in_ok-known.was (kept_ok IsAfter c.after_index.result c.ok.result c.ok.ensures.value c.after_index.ensures) in
    subst (Accounts c.in_ok-known.known) (indexed_more changes i change k c.loop-change-test.true c.change-item.is) (one (indexed_all (take i changes) k) (c.loop-change.invariant k before))

pub returns : goal.returns
returns c = λ k before.
    subst (λ (l : List IndexChange). Accounts c.loop-change.known (indexed_all l k)) (take_all c.loop-change.change-index c.args.changes.now c.loop-change-test.false) (c.loop-change.invariant k before)
