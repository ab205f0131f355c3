use Rattle.std.proofs.Common.{◌≡◌, drop}
use Rattle.ci_values.specs.Table.{word_in, words_view}
use Rattle.ci_values.proofs.table.word_in.Given as goal

abbrev pub invariant-loop-other : goal.invariant-loop-other
invariant-loop-other l = word_in (words_view (drop l.other-index l.words)) l.fn.word ≡ word_in (words_view l.words) l.fn.word
