use Rattle.std.proofs.Common.{[], ◌∷◌, refl}
use Rattle.ci_store_rows.proofs.Removals.{queries, removed_by}
use Rattle.ci_store_rows.proofs.Projects.{project_removed}
use Rattle.ci_store_rows.proofs.Variables.{variable_removed}
use Rattle.ci_store_rows.proofs.Runners.{runner_removed}
use Rattle.ci_store_rows.proofs.Pipelines.{pipeline_removed}
use Rattle.ci_store_rows.proofs.Jobs.{job_removed, refers_to_pipeline}
use Rattle.ci_store_rows.proofs.JobVariables.{job_variable_removed, job_variables_removed, refers_to_job as variables_refer}
use Rattle.ci_store_rows.proofs.Attempts.{attempt_removed, refers_to_job as attempts_refer}
use Rattle.ci_store_rows.proofs.Blocks.{trace_removed, refers_to_attempt}
use Rattle.ci_store_rows.proofs.Holders.{holders_refer}
use Rattle.ci_store_rows.proofs.Needs.{need_removed, needs_removed, needs_refer, needed_refer}
use Rattle.ci_store_rows.proofs.Board.{rows_refer}
use Rattle.ci_store_rows.proofs.Modes.{mode_removed}
use Rattle.ci_store_sqlite.proofs.make.remove_record.Goals as goal

pub returns-in-Project-clause-makes : goal.returns-in-Project-clause-makes
returns-in-Project-clause-makes g c clean inside =
    removed_by g.S.Store c.args.tx.now.conn.now c.remove_at.new.tx.conn.now c.in-Project.is c.remove_at.result [] _ refl (project_removed g.S.Store c.args.tx.now.conn.now c.remove_at.new.tx.conn.now _) (c.remove_at.ensures.removes clean inside)

pub returns-in-Variable-clause-makes : goal.returns-in-Variable-clause-makes
returns-in-Variable-clause-makes g c clean inside =
    removed_by g.S.Store c.args.tx.now.conn.now c.remove_named.new.tx.conn.now c.in-Variable.is c.remove_named.result [] _ refl (variable_removed g.S.Store c.args.tx.now.conn.now c.remove_named.new.tx.conn.now _ _) (c.remove_named.ensures.removes clean inside)

pub returns-in-Runner-clause-makes : goal.returns-in-Runner-clause-makes
returns-in-Runner-clause-makes g c clean inside =
    removed_by g.S.Store c.args.tx.now.conn.now c.remove_at-in-Runner.new.tx.conn.now c.in-Runner.is c.remove_at-in-Runner.result [] _ refl (runner_removed g.S.Store c.args.tx.now.conn.now c.remove_at-in-Runner.new.tx.conn.now _) (c.remove_at-in-Runner.ensures.removes clean inside)

pub returns-in-Pipeline-clause-makes : goal.returns-in-Pipeline-clause-makes
returns-in-Pipeline-clause-makes g c clean inside =
    removed_by g.S.Store c.args.tx.now.conn.now c.remove_at-in-Pipeline.new.tx.conn.now c.in-Pipeline.is c.remove_at-in-Pipeline.result (queries (refers_to_pipeline ∷ [])) _ refl (pipeline_removed g.S.Store c.args.tx.now.conn.now c.remove_at-in-Pipeline.new.tx.conn.now _) (c.remove_at-in-Pipeline.ensures.removes clean inside)

pub returns-in-Job-clause-makes : goal.returns-in-Job-clause-makes
returns-in-Job-clause-makes g c clean inside =
    removed_by g.S.Store c.args.tx.now.conn.now c.remove_at-in-Job.new.tx.conn.now c.in-Job.is c.remove_at-in-Job.result (queries (variables_refer ∷ attempts_refer ∷ needs_refer ∷ needed_refer ∷ rows_refer ∷ [])) _ refl (job_removed g.S.Store c.args.tx.now.conn.now c.remove_at-in-Job.new.tx.conn.now _) (c.remove_at-in-Job.ensures.removes clean inside)

pub returns-in-JobVariable-clause-makes : goal.returns-in-JobVariable-clause-makes
returns-in-JobVariable-clause-makes g c clean inside =
    removed_by g.S.Store c.args.tx.now.conn.now c.remove_named-in-JobVariable.new.tx.conn.now c.in-JobVariable.is c.remove_named-in-JobVariable.result [] _ refl (job_variable_removed g.S.Store c.args.tx.now.conn.now c.remove_named-in-JobVariable.new.tx.conn.now _ _) (c.remove_named-in-JobVariable.ensures.removes clean inside)

pub returns-in-Attempt-clause-makes : goal.returns-in-Attempt-clause-makes
returns-in-Attempt-clause-makes g c clean inside =
    removed_by g.S.Store c.args.tx.now.conn.now c.remove_at-in-Attempt.new.tx.conn.now c.in-Attempt.is c.remove_at-in-Attempt.result (queries (refers_to_attempt ∷ holders_refer ∷ [])) _ refl (attempt_removed g.S.Store c.args.tx.now.conn.now c.remove_at-in-Attempt.new.tx.conn.now _) (c.remove_at-in-Attempt.ensures.removes clean inside)

pub returns-in-Need-clause-makes : goal.returns-in-Need-clause-makes
returns-in-Need-clause-makes g c clean inside =
    removed_by g.S.Store c.args.tx.now.conn.now c.remove_pair.new.tx.conn.now c.in-Need.is c.remove_pair.result [] _ refl (need_removed g.S.Store c.args.tx.now.conn.now c.remove_pair.new.tx.conn.now _ _) (c.remove_pair.ensures.removes clean inside)

pub returns-in-JobVariables-clause-makes : goal.returns-in-JobVariables-clause-makes
returns-in-JobVariables-clause-makes g c clean inside =
    removed_by g.S.Store c.args.tx.now.conn.now c.remove_at-in-JobVariables.new.tx.conn.now c.in-JobVariables.is c.remove_at-in-JobVariables.result [] _ refl (job_variables_removed g.S.Store c.args.tx.now.conn.now c.remove_at-in-JobVariables.new.tx.conn.now _) (c.remove_at-in-JobVariables.ensures.removes clean inside)

pub returns-in-Needs-clause-makes : goal.returns-in-Needs-clause-makes
returns-in-Needs-clause-makes g c clean inside =
    removed_by g.S.Store c.args.tx.now.conn.now c.remove_at-in-Needs.new.tx.conn.now c.in-Needs.is c.remove_at-in-Needs.result [] _ refl (needs_removed g.S.Store c.args.tx.now.conn.now c.remove_at-in-Needs.new.tx.conn.now _) (c.remove_at-in-Needs.ensures.removes clean inside)

pub returns-in-Trace-clause-makes : goal.returns-in-Trace-clause-makes
returns-in-Trace-clause-makes g c clean inside =
    removed_by g.S.Store c.args.tx.now.conn.now c.remove_at-in-Trace.new.tx.conn.now c.in-Trace.is c.remove_at-in-Trace.result [] _ refl (trace_removed g.S.Store c.args.tx.now.conn.now c.remove_at-in-Trace.new.tx.conn.now _) (c.remove_at-in-Trace.ensures.removes clean inside)

pub returns-in-Mode-clause-makes : goal.returns-in-Mode-clause-makes
returns-in-Mode-clause-makes g c clean inside =
    removed_by g.S.Store c.args.tx.now.conn.now c.remove_named-in-Mode.new.tx.conn.now c.in-Mode.is c.remove_named-in-Mode.result [] _ refl (mode_removed g.S.Store c.args.tx.now.conn.now c.remove_named-in-Mode.new.tx.conn.now _ _) (c.remove_named-in-Mode.ensures.removes clean inside)
