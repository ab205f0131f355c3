use Rattle.std.proofs.Common.{◌≡◌, sym, ap, ◌∙◌, length, arith}
use Rattle.std.proofs.lemmas.List.{get_or_read}
use Rattle.ci_board.specs.Prelude.{Row, BoardState, row_at, no_row, statuses}
use Rattle.ci_board.proofs.board.Board.status.Goals as goal

pub returns-clause-assigned : goal.returns-clause-assigned
returns-clause-assigned g c = λ are.
    let inside : c.index.result.now ≡ row_at c.self.inside.rows.items c.args.j = get_or_read c.self.inside.rows.items c.args.j c.index.result.now
    (omega (arith, c.requires, ap (λ (s : BoardState). length s.rows) c.self.view_is)) c.index.ensures no_row in
    let row : c.index.result.now ≡ row_at c.args.self.now.rows c.args.j = inside ∙ ap (λ (s : BoardState). row_at s.rows c.args.j) c.self.view_is in
    (statuses c.args.self.now.rows, are.is, sym (ap (λ (r : Row). r.status) row))
