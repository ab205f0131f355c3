use Rattle.std.proofs.Common.{Option, option_map, sym, ap, ◌∙◌}
use Rattle.ci_machine_steps.specs.Prelude.{GroupMode, is_behind, waiting}
use Rattle.ci_machine.proofs.Claims.{none_ahead}
use Rattle.ci_server_lookups.proofs.Loading.{yields, continues}
use Rattle.ci_server_lookups.proofs.claims.is_behind.Goals as goal

-- in a group without a mode none goes first
pub returns-in-None : goal.returns-in-None
returns-in-None g c =
    yields c.in_ok-mode.was c.mode.ensures
    (λ k its kept.
    sym (none_ahead (waiting k.state k.board) c.args.project c.args.pipeline c.args.group.now)
    ∙ ap (λ (o : Option GroupMode). is_behind (option_map (λ m. m.order) o) (waiting k.state k.board) c.args.project c.args.pipeline c.args.group.now) (sym c.in-None.is ∙ its))

pub returns-in-Some : goal.returns-in-Some
returns-in-Some g c =
    continues c.in_ok-mode.was c.mode.ensures c.is_past_turn.ensures
    (λ k y e its got kept.
    got kept
    ∙ ap (λ (o : Option GroupMode). is_behind (option_map (λ m. m.order) o) (waiting k.state k.board) c.args.project c.args.pipeline c.args.group.now) (sym c.in-Some.is ∙ its))
