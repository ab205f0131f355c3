use Rattle.std.proofs.Common.{arith, rules}
use Rattle.std.proofs.lemmas.Map.Text.{text_keys}
use Rattle.ci_graph_layout.proofs.Placing.{place_further}
use Rattle.ci_graph_layout.proofs.places.places.Goals as goal

pub loop-i-preserved : goal.loop-i-preserved
loop-i-preserved c = λ q. grind (arith, text_keys, c.loop-i.invariant q, place_further c.args.jobs.now c.loop-i.i c.index-jobs-i.result q (search rules) c.index-jobs-i.is)
