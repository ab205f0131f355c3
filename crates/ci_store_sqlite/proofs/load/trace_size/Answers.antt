use Rattle.std.proofs.Common.{◌∙◌, sym}
use Rattle.ci_store_rows.proofs.BlockLists.{no_last, its_last}
use Rattle.ci_store_rows.proofs.Reading.{if_ok}
use Rattle.ci_store_sqlite.specs.Prelude.{kept_trace}
use Rattle.ci_store_sqlite.proofs.Looking.{after_look}
use Rattle.ci_store_sqlite.proofs.load.trace_size.Goals as goal

pub returns-in-Some : goal.returns-in-Some
returns-in-Some g c =
    after_look c.size_to.result c.in_ok-last.ensures
    (λ k at found. if_ok c.size_to.result (λ size is. is ∙ sym (its_last (kept_trace c.args.attempt k) c.in-Some.last (sym found ∙ c.in-Some.is)).size) c.size_to.ensures)

pub returns-in-None : goal.returns-in-None
returns-in-None g c = after_look _ c.in_ok-last.ensures (λ k at found. sym (no_last (kept_trace c.args.attempt k) (sym found ∙ c.in-None.is)))
