use Rattle.std.proofs.Common.{◌<◌, length, sym, ◌∙◌, arith}
use Rattle.std.proofs.lemmas.List.{take_more_same, get_or_default}
use Rattle.std.proofs.lemmas.Slice.Eq.{bytes_eq-Decides}
use Rattle.ci_memory_queue.proofs.asks.same_tags.Goals as goal

-- this one is the same in both
pub loop-i-preserved : goal.loop-i-preserved
loop-i-preserved c =
    let a = c.index-a-i.result in
    let b = c.index-b-i.result in
    let xs = c.args.a.now in
    let ys = c.args.b.now in
    let i = c.loop-i.i in
    let first : i < length xs = omega arith in
    let second : i < length ys = omega arith in
    take_more_same xs ys i a first second c.loop-i.invariant
    (sym c.index-a-i.is ∙ ((bytes_eq-Decides a b).0 (sym c.is_same.ensures ∙ c.if-not-is_same.false) ∙ (c.index-b-i.is ∙ get_or_default ys i b a second)))
