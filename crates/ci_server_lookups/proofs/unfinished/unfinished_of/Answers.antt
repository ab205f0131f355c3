use Rattle.std.proofs.Common.{◌||◌, ap, ◌∙◌}
use Rattle.std.specs.List.{list_any}
use Rattle.ci_machine_steps.specs.Prelude.{Status, rows_with}
use Rattle.ci_server_lookups.specs.Prelude.{has_number, opens}
use Rattle.ci_server_lookups.proofs.Loading.{both_yield, joined}
use Rattle.ci_server_lookups.proofs.OpenRows.{are_open}
use Rattle.ci_server_lookups.proofs.unfinished.unfinished_of.Goals as goal

-- the rows of three statuses, one after the other
pub returns : goal.returns
returns g c =
    both_yield c.in_ok-push_open-2.was c.in_ok-push_open-3.was
    (joined c.in_ok-push_open.was c.push_open.ensures c.push_open-2.ensures)
    c.push_open-3.ensures
    (λ k before manual kept.
    are_open k c.each_once.result.items kept
    (λ n. c.each_once.ensures n ∙ manual n
    ∙ ap (λ b. b || list_any (opens k.state n) (rows_with Status.Manual k.board))
    (before.1 n ∙ ap (λ b. b || list_any (opens k.state n) (rows_with Status.Pending k.board))
    (before.0 n ∙ ap (λ l. has_number n l || list_any (opens k.state n) (rows_with Status.Running k.board)) c.new-numbers.ensures.items))))
