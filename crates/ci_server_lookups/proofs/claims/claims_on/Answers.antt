use Rattle.std.proofs.Common.{◌++◌, map, sym, subst, ◌∙◌}
use Rattle.ci_machine_steps.specs.Prelude.{held_claim, groups_in, claims_in}
use Rattle.ci_server_lookups.specs.Prelude.{FreeAlike}
use Rattle.ci_server_lookups.proofs.Loading.{both_yield}
use Rattle.ci_server_lookups.proofs.Claiming.{with_alike}
use Rattle.ci_server_lookups.proofs.claims.claims_on.Goals as goal

-- those who hold and those who go first, as they were found, are all claims
pub returns : goal.returns
returns g c =
    both_yield c.in_ok-held.was c.in_ok-ahead.was c.holders_of.ensures c.ahead_of.ensures
    (λ k hold free kept.
    subst (λ cs. FreeAlike cs (claims_in k.state k.board c.args.pipeline) c.args.project c.args.jobs.now)
    (sym (c.in_ok-claims_with.ensures ∙ (λ i. map held_claim (c.as_slice.ensures.value i) ++ c.as_slice-2.ensures.value i)))
    (with_alike (groups_in k.state k.board) c.args.pipeline c.args.project c.args.jobs.now c.in_ok-held.held.items c.in_ok-ahead.ahead.items (hold kept) (free kept)))
