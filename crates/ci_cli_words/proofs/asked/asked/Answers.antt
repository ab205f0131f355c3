use Rattle.ci_cli_words.proofs.asked.asked.Goals as goal

pub returns-in-Check : goal.returns-in-Check
returns-in-Check c = rw c.in-Check.is c.check_in.ensures

pub returns-in-Explain : goal.returns-in-Explain
returns-in-Explain c = rw c.in-Explain.is c.explain_in.ensures

pub returns-in-Init : goal.returns-in-Init
returns-in-Init c = rw c.in-Init.is c.init_in.ensures

pub returns-in-Migrate : goal.returns-in-Migrate
returns-in-Migrate c = rw c.in-Migrate.is c.migrate_in.ensures

pub returns-in-ProjectAdd : goal.returns-in-ProjectAdd
returns-in-ProjectAdd c = rw c.in-ProjectAdd.is c.project_add_in.ensures

pub returns-in-RunnerAdd : goal.returns-in-RunnerAdd
returns-in-RunnerAdd c = rw c.in-RunnerAdd.is c.runner_add_in.ensures

pub returns-in-RunnerPause : goal.returns-in-RunnerPause
returns-in-RunnerPause c = rw c.in-RunnerPause.is c.runner_pause_in.ensures

pub returns-in-Report : goal.returns-in-Report
returns-in-Report c = rw c.in-Report.is c.report_in.ensures

pub returns-in-Prune : goal.returns-in-Prune
returns-in-Prune c = rw c.in-Prune.is c.prune_in.ensures

pub returns-in-Serve : goal.returns-in-Serve
returns-in-Serve c = rw c.in-Serve.is c.serve_in.ensures
