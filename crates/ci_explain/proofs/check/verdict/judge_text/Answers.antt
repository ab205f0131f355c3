use Rattle.ci_explain.proofs.Fitting.{fault-fits}
use Rattle.ci_explain.proofs.check.verdict.judge_text.Goals as goal

pub returns-in-Err : goal.returns-in-Err
returns-in-Err c = fault-fits c.args.text.now c.in-Err.fault c.in-Err.ensures.fault c.in-Err.ensures.all
