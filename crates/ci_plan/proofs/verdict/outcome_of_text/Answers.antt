use Rattle.ci_graph_layout.specs.Prelude.{given_view}
use Rattle.ci_plan.proofs.Saying.{says_refused}
use Rattle.ci_plan.proofs.verdict.outcome_of_text.Goals as goal

pub returns-in-Err : goal.returns-in-Err
returns-in-Err c = says_refused c.args.text.now (given_view c.args.given.now) c.in-Err.fault c.in-Err.ensures.fault c.in-Err.ensures.all
