use Rattle.ci_graph_layout.specs.Prelude.{answered, values_of, same_look, rule_looks}
use Rattle.ci_expr.proofs.Answering.{among-part}
use Rattle.ci_graph_layout.proofs.inclusion.deciding.Goals as goal

pub holds-requires : goal.holds-requires
holds-requires c =
    among-part same_look (rule_looks (values_of c.args.env.now)) c.args.rules.now c.loop-i.i c.index-rules-i.result (answered c.args.answers.now) c.loop-i-test.true c.index-rules-i.is c.requires
