use Rattle.std.proofs.Common.{sym, ◌∙◌}
use Rattle.ci_server_lookups.proofs.Loading.{yields}
use Rattle.ci_server_lookups.proofs.claims.is_past_turn.Goals as goal

pub returns : goal.returns
returns g c =
    yields c.in_ok-turn.was c.turn.ensures
    (λ k its kept. c.is_past.ensures ∙ sym (its kept c.args.pipeline))
