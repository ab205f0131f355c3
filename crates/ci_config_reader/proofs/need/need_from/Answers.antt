use Rattle.std.proofs.Common.{◌+◌, drop}
use Rattle.ci_config.specs.Prelude.{need_entry, blank_need, entries, pair_view, pairs_view}
use Rattle.ci_config_reader.specs.Parts.{need_parts_view}
use Rattle.ci_config_reader.proofs.Telling.{entries-next}
use Rattle.ci_config_reader.proofs.Trees.{step}
use Rattle.ci_config_reader.proofs.need.need_from.Goals as goal

pub loop-before-preserved : goal.loop-before-preserved
loop-before-preserved c =
    let ms = c.args.pairs.now in
    let i = c.loop-before.before in
    let m = c.index-pairs-before.result in
    entries-next (λ before. need_entry) i (need_parts_view c.loop-before.parts) (pair_view m) (pairs_view (drop (i + 1) ms)) (pairs_view (drop i ms)) (need_parts_view c.enter.new.self)
    (entries (λ before. need_entry) 0 blank_need (pairs_view ms)) (step pair_view ms i m c.loop-before-test.true c.index-pairs-before.is) c.loop-before.invariant (cc (c.as_str.ensures, c.in-Ok.ensures))
