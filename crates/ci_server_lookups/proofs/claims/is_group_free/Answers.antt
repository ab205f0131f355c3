use Rattle.std.proofs.Common.{sym, ap, ◌∙◌}
use Rattle.ci_machine_steps.specs.Prelude.{is_free, claims_in}
use Rattle.ci_server_lookups.proofs.Loading.{stays, implies}
use Rattle.ci_server_lookups.proofs.claims.is_group_free.Goals as goal

-- what is no group is free
pub returns-in-None : goal.returns-in-None
returns-in-None g c =
    stays g.T.Store.honest g.T.Store.holds g.T.Store.leaves _ _ _ (λ k held. g.met.T.Store.held_is_left _ k held)
    (λ k kept. sym (ap (is_free (claims_in k.state k.board c.args.pipeline) c.args.project) c.in-None.is))

pub returns-in-Some : goal.returns-in-Some
returns-in-Some g c =
    implies c.is_one_free.ensures
    (λ k y e got kept. got kept ∙ sym (ap (is_free (claims_in k.state k.board c.args.pipeline) c.args.project) c.in-Some.is))
