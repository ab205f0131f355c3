use Rattle.std.proofs.Common.{rules, ◌≡◌, ◌+◌, [], ◌∷◌, ◌++◌, ◌∙◌, take, get_or, sym, ap, subst₂}
use Rattle.std.proofs.lemmas.List.{take_more}
use Rattle.std.specs.List.{AllZip}
use Rattle.ci_store_rows.proofs.Same.{zip_push}
use Rattle.ci_store_rows.proofs.read.read_all.Goals as goal

pub loop-row-preserved : goal.loop-row-preserved
loop-row-preserved g c =
    let at = c.loop-row.row-index in
    let rows = c.args.rows.now in
    let row = c.row-item.result in
    let item : get_or rows at row ≡ row = search rules in
    let more : take (at + 1) rows ≡ take at rows ++ row ∷ [] = take_more rows at row c.loop-row-test.true ∙ ap (λ r. take at rows ++ r ∷ []) item in
    let items : c.push.new.self.items ≡ c.loop-row.found.items ++ c.in_ok-read.field-0 ∷ [] = search rules in
    subst₂ (AllZip g.R.Loaded.is_row) (sym more) (sym items) (zip_push g.R.Loaded.is_row (take at rows) c.loop-row.found.items row c.in_ok-read.field-0 c.loop-row.invariant c.in_ok-read.ensures)
