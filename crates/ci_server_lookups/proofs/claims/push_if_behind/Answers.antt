use Rattle.std.proofs.Common.{◌++◌, ap, ◌∙◌}
use Rattle.ci_server_lookups.specs.Prelude.{claim_if}
use Rattle.ci_server_lookups.proofs.Loading.{yields}
use Rattle.ci_server_lookups.proofs.claims.push_if_behind.Goals as goal

pub returns : goal.returns
returns g c =
    yields c.in_ok-behind.was c.is_behind.ensures
    (λ k got kept. c.in_ok-push_if.ensures ∙ ap (λ b. c.args.ahead.now.items ++ claim_if b c.args.project c.args.group.now) (got kept))
