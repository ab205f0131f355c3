use Rattle.std.proofs.Common.{subst, sym, flat_map}
use Rattle.ci_graph_layout.specs.Prelude.{answered, AreAnswered, same_look, job_looks, given_view}
use Rattle.ci_expr.proofs.Answering.{among-part}
use Rattle.ci_graph_layout.proofs.inclusion.decide_all.Goals as goal

pub decide-requires : goal.decide-requires
decide-requires c =
    let part = job_looks (given_view c.args.given.now) c.args.config.now in
    let all : AreAnswered c.args.answers.now (flat_map part c.deref-job-items.result.now) =
    subst (λ js. AreAnswered c.args.answers.now (flat_map part js)) (sym c.deref-job-items.ensures.value) c.requires in
    among-part same_look part c.deref-job-items.result.now c.loop-job.job-index c.job-item.result (answered c.args.answers.now) c.loop-job-test.true c.job-item.is all
