use Rattle.std.proofs.Common.{sym, subst, ⊎_elim}
use Rattle.ci_machine_steps.specs.Prelude.{indexed, IndexChange}
use Rattle.ci_memory.specs.Alone.{Accounts}
use Rattle.ci_memory.proofs.Covers.{covers, accounts}
use Rattle.ci_memory.proofs.pipelines.after.after_index.Goals as goal

pub returns-in-Open : goal.returns-in-Open
returns-in-Open c = rw (c.in-Open.is) c.opened.ensures

pub returns-in-Close : goal.returns-in-Close
returns-in-Close c = rw (c.in-Close.is) c.closed.ensures

-- the pipelines that aren't finished stay
pub returns-in-Hold : goal.returns-in-Hold
returns-in-Hold c = λ k before.
    let o = c.args.known in
    ⊎_elim
    (λ h. subst (λ (x : IndexChange). Accounts o (indexed x k)) (sym h.1) (accounts o _ (covers o k before)))
    (λ f. subst (λ (x : IndexChange). Accounts o (indexed x k)) (sym f.2) (accounts o _ (covers o k before)))
    c.in-Hold.is
