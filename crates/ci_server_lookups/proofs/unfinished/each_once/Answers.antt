use Rattle.std.proofs.Common.{◌==◌, sym, ap, ◌∙◌}
use Rattle.std.proofs.lemmas.List.Filters.{dedup_is}
use Rattle.std.proofs.lemmas.List.Sorted.{list_any-IsPermutation}
use Rattle.ci_server_lookups.specs.Prelude.{has_number}
use Rattle.ci_server_lookups.proofs.OpenRows.{number_once}
use Rattle.ci_server_lookups.proofs.unfinished.each_once.Goals as goal

-- a list in another order, and each number of it once
pub returns : goal.returns
returns c n =
    ap (has_number n) (dedup_is _ _ _ c.dedup.ensures.filtered)
    ∙ (number_once n _ ∙ sym (list_any-IsPermutation (λ m. m == n) c.args.numbers.items _ c.sort_unstable.ensures.permutation))
