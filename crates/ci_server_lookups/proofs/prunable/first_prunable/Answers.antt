use Rattle.std.proofs.Common.{ℕ, ◌==◌, not, Bool, List, length, find, nat_lt, sym, ap, ◌∙◌, ltb-true}
use Rattle.std.specs.List.{list_any}
use Rattle.std.proofs.lemmas.Bool.{and_parts}
use Rattle.ci_machine_steps.specs.Prelude.{Pipeline}
use Rattle.ci_machine_steps.proofs.Sound.{sound}
use Rattle.ci_server_lookups.proofs.Loading.{both_yield, if_kept, joined}
use Rattle.ci_server_lookups.proofs.Prunables.{not_some, one_is_prunable, none_is_prunable}
use Rattle.ci_server_lookups.proofs.prunable.first_prunable.Goals as goal

abbrev is_done : List ℕ → Pipeline → Bool
is_done numbers p = not (list_any (λ n. n == p.id) numbers)

-- those that were looked up are all, and none of them is finished
pub returns-then-shows_none : goal.returns-then-shows_none
returns-then-shows_none g c =
    let some = c.in_ok-some.some.items in
    let parts = and_parts (nat_lt (length some) _) _ (sym c.shows_none.ensures ∙ c.if-shows_none.true) in
    both_yield c.in_ok-unfinished.was c.in_ok-some.was c.unfinished.ensures (if_kept c.some_before.ensures)
    (λ k listed are kept.
    none_is_prunable k (sound k.state kept.sound).pipelines kept.are_indexes.unfinished c.in_ok-unfinished.unfinished.items listed c.args.before _ some are (ltb-true _ _ parts.0)
    (ap (λ (numbers : List ℕ). find (is_done numbers) some) (sym c.as_slice.ensures.value) ∙ not_some (find (is_done c.as_slice.result.now) some) parts.1))

-- the first finished one of those that were looked up by number
pub returns-in-Some : goal.returns-in-Some
returns-in-Some g c =
    let old = c.in_ok-old.old.items in
    both_yield c.in_ok-some.was c.in_ok-old.was (joined c.in_ok-unfinished.was c.unfinished.ensures (if_kept c.some_before.ensures)) (if_kept c.pipelines_before.ensures)
    (λ k known are kept.
    one_is_prunable k (sound k.state kept.sound).pipelines kept.are_indexes.unfinished c.in_ok-unfinished.unfinished.items known.0 c.args.before _ old c.in-Some.pipeline are
    (ap (λ (numbers : List ℕ). find (is_done numbers) old) (sym c.as_slice-2.ensures.value) ∙ (sym c.first_finished.ensures ∙ c.in-Some.is)))
