-- The words of this crate and of those below it, in one place: proofs and the crates above name them from here.
pub use Rattle.ci_machine.specs.Bodies.{created_data, fault_data, file_data, grant_data, granted_variables, job_data, mode_data, order_text, paused_data, pipeline_data}
pub use Rattle.ci_machine.specs.Bodies.{printed_status, pruned_data, source_text}
pub use Rattle.ci_machine.specs.Dates.{Day, day_after, day_of, day_text}
unfoldable pub use Rattle.ci_machine.specs.Dates.{day_at, moment_text, stamp_text}
pub use Rattle.ci_machine.specs.Eligible.{chosen, claims_group, has_tag, holds, is_eligible, is_free, resource_free, takes}
pub use Rattle.ci_machine.specs.Groups.{Groups, claims_ahead, claims_on, goes_before_in, held_claim, is_behind, is_first, is_in_line, order_of, waiting_claim}
pub use Rattle.ci_machine.specs.Holders.{held_among, held_by, holder_at, holders, holders_in, is_in_group}
pub use Rattle.ci_machine.specs.Indexes.{is_open_in, newer_in, was_tried, with_status}
pub use Rattle.ci_machine.specs.Kept.{Kept, cleared, written}
pub use Rattle.ci_machine.specs.Leases.{accepted, cause_of, finished, first_due, is_live, is_over, renewed}
pub use Rattle.ci_machine.specs.Listings.{attempt_data, group_data, listed, listed_pipeline_data, project_data, told_jobs}
pub use Rattle.ci_machine.specs.Lookups.{attempt_at, demand_at, is_pending, job_at, last_attempt, last_attempt_by, lease_of, live_attempts, newest_of, next_of, pipeline_at}
pub use Rattle.ci_machine.specs.Lookups.{pipeline_of, project_at, project_variables, project_with, queued, runner_at, runner_with, trace_of, variable_at, variables_of}
pub use Rattle.ci_machine.specs.Ranges.{attempts_within, needs_within, row_at, rows_with, rows_within}
pub use Rattle.ci_machine.specs.Redundant.{is_bound_to, is_redundant}
pub use Rattle.ci_machine.specs.Reply.{body_text, detail_text, plain, refusal, status_of_state}
pub use Rattle.ci_machine.specs.ReportRows.{shown_text}
pub use Rattle.ci_machine.specs.State.{State, applied, empty, need_cmp, others, placed, put, without, without_all}
pub use Rattle.ci_machine.specs.Statuses.{AreBoard, attempts_of, facts_of, graph_by, graph_of, jobs_of, pairs_of, rows_of, status_for}
pub use Rattle.ci_machine.specs.Waiting.{claims_in, groups_among, groups_in, mode_at, modes_in}
pub use Rattle.ci_machine.specs.declared.records.Claim.{Claim}
pub use Rattle.ci_machine.specs.declared.records.GroupMode.{GroupMode}
pub use Rattle.ci_machine.specs.declared.records.Holder.{Holder}
pub use Rattle.ci_machine.specs.declared.records.QueuedJob.{QueuedJob}
pub use Rattle.ci_machine.specs.declared.records.Runner.{Runner}
pub use Rattle.ci_machine.specs.declared.records.WaitingJob.{WaitingJob}
pub use Rattle.ci_board.specs.Rows.{AreRows}
pub use Rattle.ci_board.specs.Statuses.{IsAssignment, no_facts}
pub use Rattle.ci_board.specs.declared.facts.Facts.{Facts}
pub use Rattle.ci_board.specs.declared.facts.Row.{Row}
pub use Rattle.ci_board.specs.declared.facts.Status.{Status}
pub use Rattle.ci_graph.specs.JobGraph.{HasPairs, IsJobGraph, JobGraph, no_part, part_at, part_of, predecessors_of}
pub use Rattle.ci_graph.specs.Lists.{IsOrder, IsStuck, distinct, is_among, list_at, number_at, once, times}
pub use Rattle.ci_graph.specs.Pairs.{AreWithin, HasCycle, HasWalk, IsAcyclic, IsWalk, firsts_of, has_pair}
pub use Rattle.ci_graph.specs.declared.part.Part.{Part}
pub use Rattle.ci_values.specs.Attempts.{has_cause, is_live_state}
pub use Rattle.ci_values.specs.Layers.{Variables, value_in}
pub use Rattle.ci_values.specs.Names.{is_name}
pub use Rattle.ci_values.specs.Numbers.{id_in, is_number, number_within, within}
pub use Rattle.ci_values.specs.Table.{meaning_of}
pub use Rattle.ci_values.specs.VariableName.{is_variable_name}
pub use Rattle.ci_values.specs.declared.attempts.AttemptState.{AttemptState}
pub use Rattle.ci_values.specs.declared.attempts.AttemptState.TheVariants.{Cancelled, Failed, Live, Succeeded}
pub use Rattle.ci_values.specs.declared.attempts.Cause.{Cause}
pub use Rattle.ci_values.specs.declared.attempts.Cause.TheVariants.{ApiFailure, JobExecutionTimeout, RunnerSystemFailure, ScriptFailure, StuckOrTimeoutFailure, UnknownFailure}
pub use Rattle.ci_values.specs.declared.limits.TheConstants.{MAX_NUMBER}
pub use Rattle.ci_values.specs.declared.when.AllowFailure.{AllowFailure}
pub use Rattle.ci_values.specs.declared.when.AllowFailure.TheVariants.{ExitCodes, No, Yes}
pub use Rattle.ci_values.specs.declared.when.Causes.{Causes}
pub use Rattle.ci_values.specs.declared.when.Retry.{Retry}
pub use Rattle.ci_values.specs.declared.when.When.{When}
pub use Rattle.ci_values.specs.declared.when.When.TheVariants.{Always, Manual, OnFailure, OnSuccess}
