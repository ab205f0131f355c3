use Rattle.std.proofs.Common.{◌++◌, sym, ap, ◌∙◌}
use Rattle.std.proofs.lemmas.List.{append-nil}
use Rattle.ci_machine_steps.specs.Prelude.{groups_in}
use Rattle.ci_server_lookups.specs.Prelude.{ahead_for}
use Rattle.ci_server_lookups.proofs.Loading.{stays, implies}
use Rattle.ci_server_lookups.proofs.claims.push_ahead.Goals as goal

-- no claim is on what is no group
pub returns-in-None : goal.returns-in-None
returns-in-None g c =
    stays g.T.Store.honest g.T.Store.holds g.T.Store.leaves _ _ _ (λ k held. g.met.T.Store.held_is_left _ k held)
    (λ k kept.
    sym (append-nil c.args.ahead.now.items)
    ∙ ap (λ o. c.args.ahead.now.items ++ ahead_for (groups_in k.state k.board) c.args.project c.args.pipeline o) (sym c.in-None.is))

pub returns-in-Some : goal.returns-in-Some
returns-in-Some g c =
    implies c.push_if_behind.ensures
    (λ k y e got kept.
    got kept ∙ ap (λ o. c.args.ahead.now.items ++ ahead_for (groups_in k.state k.board) c.args.project c.args.pipeline o) (sym c.in-Some.is))
