-- The words of this crate and of those below it, in one place: proofs and the crates above name them from here.
pub use Rattle.ci_machine_steps.specs.Acts.{ActsOn, ShowsJobAfter, ShowsPipelineAfter, permitted}
pub use Rattle.ci_machine_steps.specs.Cancels.{CancelsPipeline, CancelsSome, cancel, cancellable_jobs, cancelled_attempt, cancelled_job, is_cancellable, is_lease_on}
pub use Rattle.ci_machine_steps.specs.Files.{IsRead, SetsFile, configures, file_set, keyword_fault, lacks_tree, line_fault, misconfigures, set_file}
pub use Rattle.ci_machine_steps.specs.Grants.{ask_job, grant, granted, nothing_to_run}
pub use Rattle.ci_machine_steps.specs.History.{IsReached, Leads, Past}
pub use Rattle.ci_machine_steps.specs.Laws.{Ascend, EndsStay, GivesInOrder, IsLeastEligible, IsLeastPrunable, IsLeastRedundant, IsLinked, IsMadeBy, IsPrunedBy, IsRefusal}
pub use Rattle.ci_machine_steps.specs.Laws.{IsSweptBy, IsTraced, Laws, NoneIsDue, NoneIsPrunable, NoneIsRedundant, OneLease, OneLeaseInGroup, Prunes, Stay, Stays, SweepsLeast}
pub use Rattle.ci_machine_steps.specs.Laws.{WasGranted, WasIncluded, WasPruned, WentWithItsJob, accepted_bytes, all_accepted, attempt_for_good, grants, is_accepted, is_created}
pub use Rattle.ci_machine_steps.specs.Laws.{is_due, is_grant, is_redundant_in, job_for_good, project_for_good, runner_for_good}
pub use Rattle.ci_machine_steps.specs.Modes.{mode_change, mode_told, set_mode, show_mode}
pub use Rattle.ci_machine_steps.specs.OneBoard.{HasNoCircle, HasOneBoard, JoinsOnePipeline, WasPending}
pub use Rattle.ci_machine_steps.specs.Pipelines.{Creates, Creation, IsLaidOut, Layout, Makes, MakesUnless, ShowsCreated, creation, creation_changes, file_for, file_or_none}
pub use Rattle.ci_machine_steps.specs.Pipelines.{given_by, graph_fault, have_names, lacks_numbers, may_create, merged, misread, name_cmp, need_of, new_job, new_jobs}
pub use Rattle.ci_machine_steps.specs.Pipelines.{pipeline_created, planned, predefined, put_needs, ref_name, unplanned, variable, variables_from}
pub use Rattle.ci_machine_steps.specs.Plans.{Plan, asked_project, created, faulted, fine, numbered, refused, token_of}
pub use Rattle.ci_machine_steps.specs.Plays.{is_playable, play}
pub use Rattle.ci_machine_steps.specs.Projects.{add_project, made_project}
pub use Rattle.ci_machine_steps.specs.Prunes.{attempt_goes, is_job_among, is_prunable, nothing_to_prune, pipeline_goes, prunable_in, prune, pruned_reply, ties_go, without_pipeline}
pub use Rattle.ci_machine_steps.specs.Reads.{attempt_of, attempt_within, attempts_read, group_names, group_read, holding_job, jobs_read, json, listed_pipelines, read, read_of}
pub use Rattle.ci_machine_steps.specs.Reads.{trace_read, with_names}
pub use Rattle.ci_machine_steps.specs.Reports.{ended, heard, reported, unleased, update_job}
pub use Rattle.ci_machine_steps.specs.Retries.{is_retryable, retry}
pub use Rattle.ci_machine_steps.specs.Runners.{add_runner, are_names, lacks_project, made_runner, pause_runner, runner_paused}
pub use Rattle.ci_machine_steps.specs.Shows.{asked_job, asked_pipeline, job_shown, job_within, pipeline_shown, pipeline_within, show_job, show_pipeline, show_trace, shown}
pub use Rattle.ci_machine_steps.specs.Shows.{trace_shown, traced}
pub use Rattle.ci_machine_steps.specs.Sound.{IsSound}
pub use Rattle.ci_machine_steps.specs.Step.{Does, Happens, Step, cancellable_in, found_job, found_pipeline, jobs_in, offer, offered_variables, pipeline_or_none, project_named}
pub use Rattle.ci_machine_steps.specs.Step.{sweep_in}
pub use Rattle.ci_machine_steps.specs.Sweeps.{ends, sweep}
pub use Rattle.ci_machine_steps.specs.Traces.{accepted_to, append_trace, appended, grown, not_accepted}
pub use Rattle.ci_machine_steps.specs.Variables.{count_with, delete_variable, set_variable, variable_gone, variable_set}
pub use Rattle.ci_board.specs.Effects.{effect, idle_status, is_allowed, is_allowed_by, is_bar, is_fail, is_met, is_open, is_status, status_by, status_of_effects, waits_for_play}
pub use Rattle.ci_board.specs.Pass.{status_of_row}
pub use Rattle.ci_board.specs.PipelineStatus.{has_attempt, has_status, has_strict, pipeline_status, some_job}
pub use Rattle.ci_board.specs.Rows.{AreRows, BoardState, differing, is_named, replaced, same_row}
pub use Rattle.ci_board.specs.Statuses.{IsAssignment, effects_of, facts_at, no_facts, no_row, row_of, statuses}
pub use Rattle.ci_board.specs.Texts.{status_text}
pub use Rattle.ci_board.specs.declared.facts.Effect.{Effect}
pub use Rattle.ci_board.specs.declared.facts.Effect.TheVariants.{Bars, Good}
pub use Rattle.ci_board.specs.declared.facts.Facts.{Facts}
pub use Rattle.ci_board.specs.declared.facts.FactsChange.{FactsChange}
pub use Rattle.ci_board.specs.declared.facts.Row.{Row}
pub use Rattle.ci_board.specs.declared.facts.Status.{Status}
pub use Rattle.ci_board.specs.declared.facts.Status.TheVariants.{Canceled, Created, Pending, Running, Success}
pub use Rattle.ci_machine.specs.Bodies.{created_data, fault_data, file_data, grant_data, granted_variables, job_data, jobs_data, mode_data, paused_data, pipeline_data}
pub use Rattle.ci_machine.specs.Bodies.{printed_status, pruned_data, source_text, status_of_jobs, variable_data, with_default}
unfoldable pub use Rattle.ci_machine.specs.Dates.{day_at, stamp_text}
pub use Rattle.ci_machine.specs.Eligible.{chosen, claims_group, has_tag, holds, is_eligible, is_free, is_open_to, may_run, resource_free, takes}
pub use Rattle.ci_machine.specs.Groups.{Groups, claims_ahead, claims_on, goes_before, goes_before_in, held_claim, is_behind, is_first, is_in_line, is_mode_of, order_of}
pub use Rattle.ci_machine.specs.Groups.{waiting_claim}
pub use Rattle.ci_machine.specs.Holders.{AreHolders, freed, group_held, held_by, held_of, holder_at, holder_cmp, holders, holders_in, holds_group, is_in_group, queued_at}
pub use Rattle.ci_machine.specs.Holders.{without_holder}
pub use Rattle.ci_machine.specs.Indexes.{AreIndexes, is_open_in, newer_in, redundant_in, unfinished_in, was_tried, with_status}
pub use Rattle.ci_machine.specs.Kept.{Kept, cleared, indexed, indexed_all, nothing_kept, put_rows, row_cmp, unfinished_cmp, with_open, without_open, written}
pub use Rattle.ci_machine.specs.Leases.{accepted, after_final, cause_of, deadline, finished, first_due, if_leased, is_live, is_over, is_same_end, renewed, same_exit, size_after}
pub use Rattle.ci_machine.specs.Leases.{while_leased}
pub use Rattle.ci_machine.specs.Listings.{attempt_data, attempts_among, exit_of, group_data, is_tag, listed, listed_job_data, listed_pipeline_data, needs_among, number_or_null}
pub use Rattle.ci_machine.specs.Listings.{project_data, reason_of, runner_or_null, text_or_null, told_job, told_jobs}
pub use Rattle.ci_machine.specs.Lookups.{attempt_at, demand_of, is_pending, job_at, last_attempt, lease_at, lease_of, leases, limit_or_none, live_attempts, newest_of, next_of}
pub use Rattle.ci_machine.specs.Lookups.{pending_jobs, pipeline_at, pipeline_of, project_at, project_or_none, project_variables, project_with, queue, queued, runner_at}
pub use Rattle.ci_machine.specs.Lookups.{runner_with, trace_if_any, trace_of, variable_at, variables_of}
pub use Rattle.ci_machine.specs.Options.{plain_options}
pub use Rattle.ci_machine.specs.Ranges.{attempts_within, is_within, needs_within, rows_with, rows_within}
pub use Rattle.ci_machine.specs.Redundant.{is_bound_to, is_newer_of, is_redundant, is_unfinished}
pub use Rattle.ci_machine.specs.Reply.{LackedMemory, Outcome, Stepped, StoreFailed, body_text, detail_text, outcome_by, outcome_of, plain, refusal, status_of_state}
pub use Rattle.ci_machine.specs.ReportRows.{job_row, job_rows, pending_status, queue_row, queue_rows, runner_row, runner_rows, shown_status}
pub use Rattle.ci_machine.specs.State.{State, applied, attempt_cmp, bytes_or_none, changed, empty, first_numbers, job_cmp, job_variable_cmp, mode_cmp, need_cmp, others}
pub use Rattle.ci_machine.specs.State.{pipeline_cmp, placed, project_cmp, put, trace_cmp, trace_in, variable_cmp, with_bytes, with_next, with_record, without, without_all}
pub use Rattle.ci_machine.specs.State.{without_record}
pub use Rattle.ci_machine.specs.Statuses.{AreBoard, AreRowsOf, attempts_of, facts_in, facts_of, graph_by, graph_of, jobs_of, numbers_of, pair_of, pairs_among, pairs_of, place_in}
pub use Rattle.ci_machine.specs.Statuses.{predecessors_by, row_for, row_or_none, rows_of, status_for}
pub use Rattle.ci_machine.specs.Waiting.{claims_in, groups_in, groups_with, mode_at, modes_in, waiting, waits_as, waits_for}
pub use Rattle.ci_machine.specs.declared.change.Counter.{Counter}
pub use Rattle.ci_machine.specs.declared.change.IndexChange.{IndexChange}
pub use Rattle.ci_machine.specs.declared.change.IndexChange.TheVariants.{Close, Free, Hold}
pub use Rattle.ci_machine.specs.declared.change.Key.{Key}
pub use Rattle.ci_machine.specs.declared.change.Record.{Record}
pub use Rattle.ci_machine.specs.declared.change.RowChange.{RowChange}
pub use Rattle.ci_machine.specs.declared.change.RowChange.TheVariants.{Append, Put, Remove}
pub use Rattle.ci_machine.specs.declared.lease.Lease.{Lease}
pub use Rattle.ci_machine.specs.declared.lease.LeaseFault.{LeaseFault}
pub use Rattle.ci_machine.specs.declared.lease.LeaseFault.TheVariants.{LeaseOver, NotLive}
pub use Rattle.ci_machine.specs.declared.lease.PieceFault.{PieceFault}
pub use Rattle.ci_machine.specs.declared.lease.PieceFault.TheVariants.{TraceFull, Unleased, WrongOffset}
pub use Rattle.ci_machine.specs.declared.limits.TheConstants.{LISTED_PIPELINES, MAX_TRACE_BYTES}
pub use Rattle.ci_machine.specs.declared.records.Attempt.{Attempt}
pub use Rattle.ci_machine.specs.declared.records.BoardRow.{BoardRow}
pub use Rattle.ci_machine.specs.declared.records.Claim.{Claim}
pub use Rattle.ci_machine.specs.declared.records.GroupMode.{GroupMode}
pub use Rattle.ci_machine.specs.declared.records.GroupOrder.{GroupOrder}
pub use Rattle.ci_machine.specs.declared.records.GroupOrder.TheVariants.{NewestReadyFirst, OldestFirst}
pub use Rattle.ci_machine.specs.declared.records.Holder.{Holder}
pub use Rattle.ci_machine.specs.declared.records.Job.{Job}
pub use Rattle.ci_machine.specs.declared.records.JobOptions.{JobOptions}
pub use Rattle.ci_machine.specs.declared.records.JobVariable.{JobVariable}
pub use Rattle.ci_machine.specs.declared.records.Need.{Need}
pub use Rattle.ci_machine.specs.declared.records.Numbers.{Numbers}
pub use Rattle.ci_machine.specs.declared.records.Pipeline.{Pipeline}
pub use Rattle.ci_machine.specs.declared.records.PipelineWithStatus.{PipelineWithStatus}
pub use Rattle.ci_machine.specs.declared.records.Project.{Project}
pub use Rattle.ci_machine.specs.declared.records.QueuedJob.{QueuedJob}
pub use Rattle.ci_machine.specs.declared.records.RefKind.TheVariants.{Branch, Tag}
pub use Rattle.ci_machine.specs.declared.records.Runner.{Runner}
pub use Rattle.ci_machine.specs.declared.records.Source.TheVariants.{Api, Push, Web}
pub use Rattle.ci_machine.specs.declared.records.Trace.{Trace}
pub use Rattle.ci_machine.specs.declared.records.Unfinished.{Unfinished}
pub use Rattle.ci_machine.specs.declared.records.Variable.{Variable}
pub use Rattle.ci_machine.specs.declared.records.WaitingJob.{WaitingJob}
pub use Rattle.ci_machine.specs.declared.reply.Answer.{Answer}
pub use Rattle.ci_machine.specs.declared.reply.Body.{Body}
pub use Rattle.ci_machine.specs.declared.reply.Body.TheVariants.{Json}
pub use Rattle.ci_machine.specs.declared.reply.Code.{Code}
pub use Rattle.ci_machine.specs.declared.reply.Code.TheVariants.{H1, H2, H3, H4, H5, H6, H7, H8, M1, M10, M11, M12, M13, M14, M15, M16, M17, M2, M3, M4, M5, M6, M7, M8, M9}
pub use Rattle.ci_machine.specs.declared.reply.Detail.{Detail}
pub use Rattle.ci_machine.specs.declared.reply.FaultCode.TheVariants.{K, X}
pub use Rattle.ci_machine.specs.declared.reply.HttpStatus.{HttpStatus}
pub use Rattle.ci_machine.specs.declared.reply.HttpStatus.TheVariants.{Accepted, Fine, NoContent}
pub use Rattle.ci_machine.specs.declared.reply.Reply.{Reply}
pub use Rattle.ci_machine.specs.declared.reply.Swept.{Swept}
pub use Rattle.ci_machine.specs.declared.report.JobRow.{JobRow}
pub use Rattle.ci_machine.specs.declared.report.PipelineRows.{PipelineRows}
pub use Rattle.ci_machine.specs.declared.report.QueueRow.{QueueRow}
pub use Rattle.ci_machine.specs.declared.report.RunnerRow.{RunnerRow}
pub use Rattle.ci_machine.specs.declared.request.Event.{Event}
pub use Rattle.ci_machine.specs.declared.request.GroupQuery.{GroupQuery}
pub use Rattle.ci_machine.specs.declared.request.JobQuery.{JobQuery}
pub use Rattle.ci_machine.specs.declared.request.JobUpdate.{JobUpdate}
pub use Rattle.ci_machine.specs.declared.request.NewFile.{NewFile}
pub use Rattle.ci_machine.specs.declared.request.NewMode.{NewMode}
pub use Rattle.ci_machine.specs.declared.request.NewPipeline.{NewPipeline}
pub use Rattle.ci_machine.specs.declared.request.NewRunner.{NewRunner}
pub use Rattle.ci_machine.specs.declared.request.NewVariable.{NewVariable}
pub use Rattle.ci_machine.specs.declared.request.PipelineQuery.{PipelineQuery}
pub use Rattle.ci_machine.specs.declared.request.PipelineVariable.{PipelineVariable}
pub use Rattle.ci_machine.specs.declared.request.ReadQuery.{ReadQuery}
pub use Rattle.ci_machine.specs.declared.request.Report.{Report}
pub use Rattle.ci_machine.specs.declared.request.Request.{Request}
pub use Rattle.ci_machine.specs.declared.request.Request.TheVariants.{AddProject, AddRunner, AppendTrace, AskJob, CancelJob, CancelPipeline, CreatePipeline, DeleteVariable}
pub use Rattle.ci_machine.specs.declared.request.Request.TheVariants.{PauseRunner, Play, PruneOne, Read, RetryJob, SetFile, SetMode, SetVariable, ShowJob, ShowMode, ShowPipeline}
pub use Rattle.ci_machine.specs.declared.request.Request.TheVariants.{ShowTrace, UpdateJob}
pub use Rattle.ci_machine.specs.declared.request.RunnerPause.{RunnerPause}
pub use Rattle.ci_machine.specs.declared.request.Seed.{Seed}
pub use Rattle.ci_machine.specs.declared.request.Subject.{Subject}
pub use Rattle.ci_machine.specs.declared.request.TracePart.{TracePart}
pub use Rattle.ci_machine.specs.declared.request.VariableQuery.{VariableQuery}
pub use Rattle.ci_values.specs.Attempts.{is_live_state}
pub use Rattle.ci_values.specs.Layers.{Variables, layer_view, or_else, text_view, value_in}
pub use Rattle.ci_values.specs.Names.{is_name}
pub use Rattle.ci_values.specs.Table.{meaning_of, words_view}
pub use Rattle.ci_values.specs.VariableName.{is_variable_name}
pub use Rattle.ci_values.specs.contracts.when.AllowFailureClone.TheImpl.{by_variants}
pub use Rattle.ci_values.specs.declared.attempts.AttemptState.{AttemptState}
pub use Rattle.ci_values.specs.declared.attempts.AttemptState.TheVariants.{Cancelled, Live, Succeeded}
pub use Rattle.ci_values.specs.declared.attempts.Cause.TheVariants.{JobExecutionTimeout, ScriptFailure}
pub use Rattle.ci_values.specs.declared.limits.TheConstants.{MAX_FILE_BYTES, MAX_NUMBER}
pub use Rattle.ci_values.specs.declared.when.AllowFailure.{AllowFailure}
pub use Rattle.ci_values.specs.declared.when.AllowFailure.TheVariants.{ExitCodes, No, Yes}
pub use Rattle.ci_values.specs.declared.when.When.{When}
pub use Rattle.ci_values.specs.declared.when.When.TheVariants.{Always, Manual, OnFailure, OnSuccess}
