use Rattle.std.proofs.Common.{◌≡◌, ◌==◌, ℕ, not, filter, nat_lt, insert, is_ok, sym, ap, subst, ◌∙◌}
use Rattle.std.specs.List.{prefix_len}
use Rattle.std.proofs.lemmas.Bool.{cond-true}
use Rattle.ci_memory_boards.proofs.Lists.{ok_if_some}
use Rattle.ci_memory_boards.proofs.Placing.{put_back}
use Rattle.ci_memory_boards.proofs.puts.put_record.Goals as goal

-- it is put in where the one of its number was taken out
pub returns : goal.returns
returns g c =
    let by = g.T.Numbered.number_of in
    let before = c.args.records.now.items in
    let left = c.take_out.new.records.items in
    c.insert.ensures.items ∙ cond-true (is_ok c.insert.result) (insert left c.count_before-place.result c.args.one) left (ok_if_some c.insert.result c.in_ok-ok.field-0 (sym c.ok.ensures.value ∙ c.in_ok-ok.was))
    ∙ put_back by c.args.one c.count_before-place.result before left
    (subst (λ (n : ℕ). left ≡ filter (λ r. not (n == by r)) before) c.number-number.ensures c.take_out.ensures)
    (c.count_before-place.ensures.len ∙ (ap (prefix_len (λ r. nat_lt (by r) c.number-number.result)) c.as_slice.ensures.value ∙ ap (λ (n : ℕ). prefix_len (λ r. nat_lt (by r) n) left) c.number-number.ensures))
