use Rattle.std.proofs.Common.{sym, subst, ◌∙◌}
use Rattle.ci_memory_queue.specs.Offers.{IsPendingRow}
use Rattle.ci_server_lookups.proofs.Loading.{gives}
use Rattle.ci_memory_queue.proofs.Ones.{pending_by}
use Rattle.ci_memory_queue.proofs.pending.pending_row.Goals as goal

-- the row that was found says whether the job is pending
pub returns-in-Some : goal.returns-in-Some
returns-in-Some g c =
    gives g.T.Store.honest g.T.Store.holds g.T.Store.leaves _ _ _ c.row.result c.in_ok-row.field-0 _ c.in_ok-row.was c.row.ensures
    (λ k its. subst (IsPendingRow k.board c.args.job) (sym c.if_pending.ensures) (pending_by k.board c.args.job c.in-Some.row (sym c.in-Some.is ∙ its)))
