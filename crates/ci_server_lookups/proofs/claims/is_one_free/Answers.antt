use Rattle.std.proofs.Common.{sym, ◌∙◌}
use Rattle.ci_machine_steps.specs.Prelude.{groups_in}
use Rattle.ci_server_lookups.proofs.Loading.{yields, both_yield}
use Rattle.ci_server_lookups.proofs.Holds.{held_by_row}
use Rattle.ci_server_lookups.proofs.Claiming.{not_free, free_unless}
use Rattle.ci_server_lookups.proofs.claims.is_one_free.Goals as goal

-- a live attempt holds it
pub returns-then-is_some : goal.returns-then-is_some
returns-then-is_some g c =
    yields c.in_ok-holder.was c.holder.ensures
    (λ k its kept.
    not_free (groups_in k.state k.board) c.args.pipeline c.args.project c.args.group.now
    (sym (held_by_row k.state k.holders kept.are_indexes.held c.args.project c.args.group.now c.in_ok-holder.holder its) ∙ (sym c.is_some.ensures ∙ c.if-is_some.true)))

-- none does, and it is free unless another goes first
pub returns : goal.returns
returns g c =
    both_yield c.in_ok-holder.was c.in_ok-behind.was c.holder.ensures c.is_behind.ensures
    (λ k its got kept.
    free_unless (groups_in k.state k.board) c.args.pipeline c.args.project c.args.group.now c.in_ok-behind.behind
    (sym (held_by_row k.state k.holders kept.are_indexes.held c.args.project c.args.group.now c.in_ok-holder.holder its) ∙ (sym c.is_some.ensures ∙ c.if-is_some.false))
    (got kept))
