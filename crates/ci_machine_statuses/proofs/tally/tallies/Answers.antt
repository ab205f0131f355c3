use Rattle.std.proofs.Common.{length, replicate, drop, sym, ap, ◌∙◌, arith}
use Rattle.std.proofs.lemmas.List.{take_at}
use Rattle.ci_machine_statuses.proofs.Tallies.{none_yet}
use Rattle.ci_machine_statuses.proofs.tally.tallies.Goals as goal

pub returns-clause-tallies : goal.returns-clause-tallies
returns-clause-tallies c = λ up.
    take_at c.count_all.new.tallies (drop (length c.count_all.new.tallies) c.in_ok-tallies.tallies.items) c.in_ok-tallies.tallies.len (omega arith)
    ∙ c.count_all.ensures.counted up
    (c.as_mut_slice.ensures.value
    ∙ (c.in_ok-tallies.ensures.items_if_clones_equal (λ y e. e)
    ∙ (ap (replicate (length c.args.numbers.now)) c.new.ensures
    ∙ sym (none_yet c.args.numbers.now))))
