use Rattle.std.proofs.Common.{◌≡◌, Err, sym, subst}
use Rattle.std.proofs.lemmas.Result.{err_from_is_err_and}
use Rattle.ci_machine_steps.specs.Prelude.{Kept, cleared, written}
use Rattle.ci_memory.specs.Remembered.{Remembered}
use Rattle.ci_memory.specs.Right.{IsRight}
use Rattle.ci_memory.proofs.Failing.{fails_too}
use Rattle.ci_memory.proofs.remembering.RememberingStore.commit.Goals as goal

-- where the commit failed, nothing is remembered, which is right for what the store keeps then
pub returns-in_err-commit-clause-ends : goal.returns-in_err-commit-clause-ends
returns-in_err-commit-clause-ends g c h k held =
    let p = err_from_is_err_and c.from_residual.result c.from_residual.ensures.1 in
    let same : c.from_residual.result ≡ Err c.in_err-commit.field-0.0 = cc in
    let d = c.args.delta in
    let now : Kept = written d.changes d.rows d.indexes (cleared d.cleared k) in
    let holds = g.T.Store.holds c.commit.new.self in
    let is_right = IsRight c.replace.new.dest in
    fails_too c.commit.result c.from_residual.result c.in_err-commit.field-0.0 c.in_err-commit.was same (holds now) (holds now × is_right now) (holds k) (holds k × is_right k) (g.T.Store.leaves c.commit.new.self k now)
    (λ kept. (kept, subst (λ (m : Remembered). IsRight m k) (sym c.replace.ensures.after) (c.nothing.ensures k held.1.in_order)))
    (c.commit.ensures.ends h k held.0)
