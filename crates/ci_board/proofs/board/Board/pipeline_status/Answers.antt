use Rattle.std.proofs.Common.{◌∙◌, ap}
use Rattle.ci_board.specs.Prelude.{BoardState}
use Rattle.ci_board.proofs.Assignments.{pipeline_same}
use Rattle.ci_board.proofs.board.Board.pipeline_status.Goals as goal

pub returns : goal.returns
returns g c =
    c.pipeline_status.ensures
    ∙ pipeline_same c.parts.result.now c.args.self.now.graph.parts c.as_slice.result.now c.args.self.now.facts c.as_slice-2.result.now c.args.self.now.rows
    (c.parts.ensures ∙ ap (λ (s : BoardState). s.graph.parts) c.self.view_is)
    (c.as_slice.ensures.value ∙ ap (λ (s : BoardState). s.facts) c.self.view_is)
    (c.as_slice-2.ensures.value ∙ ap (λ (s : BoardState). s.rows) c.self.view_is)
