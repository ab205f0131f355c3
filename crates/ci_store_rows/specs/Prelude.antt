-- The words of this crate and of those below it, in one place: proofs and the crates above name them from here.
pub use Rattle.ci_store_rows.specs.Blocks.{StaysWithin, all_blocks, block_at, block_count, block_sizes, blocks_of, last_block}
pub use Rattle.ci_store_rows.specs.Changes.{Makes, MakesInside, RemovesUnreferred, ShowsNone, appended, in_board, in_holders, in_state}
pub use Rattle.ci_store_rows.specs.Create.{IsBare, IsBlank}
pub use Rattle.ci_store_rows.specs.Found.{FindsNumber, ShowsRecords, listed}
pub use Rattle.ci_store_rows.specs.JsonText.{allow_data, cause_text, causes_data, every_cause, group_data, list_data, list_text, numbers, retry_data, spec_data, spec_text, strings}
pub use Rattle.ci_store_rows.specs.JsonText.{when_text}
pub use Rattle.ci_store_rows.specs.Load.{HasState, IsDemandRow, IsJobRow, IsRunnerRow, bytes_in, demand_cells, job_cells, runner_cells}
pub use Rattle.ci_store_rows.specs.Reads.{ReadsDemand, ReadsList, ReadsSpec, is_text}
pub use Rattle.ci_store_rows.specs.Rows.{attempt_row, block_row, board_row, cause_in, cause_number, exit_in, flag, holder_row, job_row, job_variable_row, kind_number, mode_row}
pub use Rattle.ci_store_rows.specs.Rows.{need_row, number, order_number, pipeline_row, project_row, runner_row, source_number, state_number, variable_row}
pub use Rattle.ci_store_rows.specs.Schema.{attempt, board, holder, holder_index_1, job, jobvar, jobvar_index_1, meta, meta_index_1, mode, mode_index_1, need, need_index_1, piece}
pub use Rattle.ci_store_rows.specs.Schema.{piece_index_1, pipeline, project, runner, the_schema, variable, variable_index_1}
pub use Rattle.ci_store_rows.specs.Stands.{IsAt, IsRegular, LeavesEither, LeavesOnly, Rises, Stands, StandsIn, counter_key, meta_row, meta_rows, rows_at, rows_by_tree, rows_of}
pub use Rattle.ci_store_rows.specs.declared.block.Block.{Block}
pub use Rattle.ci_store_rows.specs.declared.block.TheConstants.{BLOCK_BYTES}
pub use Rattle.ci_store_rows.specs.declared.columns.TheConstants.{LAST_INTEGER}
pub use Rattle.ci_store_rows.specs.declared.texts.TheConstants.{DELETE_ATTEMPT, DELETE_BLOCKS, DELETE_HOLDER, DELETE_JOB, DELETE_JOB_VARIABLE, DELETE_JOB_VARIABLES, DELETE_MODE}
pub use Rattle.ci_store_rows.specs.declared.texts.TheConstants.{DELETE_NEED, DELETE_NEEDS, DELETE_PIPELINE, DELETE_PROJECT, DELETE_ROW, DELETE_RUNNER, DELETE_VARIABLE}
pub use Rattle.ci_store_rows.specs.declared.texts.TheConstants.{INSERT_ATTEMPT, INSERT_BLOCK, INSERT_HOLDER, INSERT_JOB, INSERT_JOB_VARIABLE, INSERT_META, INSERT_MODE, INSERT_NEED, INSERT_NEEDS}
pub use Rattle.ci_store_rows.specs.declared.texts.TheConstants.{INSERT_PIPELINE, INSERT_PROJECT, INSERT_ROW, INSERT_RUNNER, INSERT_VARIABLE, SELECT_ATTEMPT, SELECT_ATTEMPTS_ABOVE}
pub use Rattle.ci_store_rows.specs.declared.texts.TheConstants.{SELECT_ATTEMPTS_BY, SELECT_ATTEMPTS_IN, SELECT_ATTEMPTS_OF, SELECT_ATTEMPTS_WITHIN, SELECT_BLOCKS, SELECT_DEMAND}
pub use Rattle.ci_store_rows.specs.declared.texts.TheConstants.{SELECT_DEMANDS_ABOVE, SELECT_HOLDER, SELECT_HOLDERS_IN, SELECT_HOLDERS_OF, SELECT_JOB, SELECT_JOBS_ABOVE}
pub use Rattle.ci_store_rows.specs.declared.texts.TheConstants.{SELECT_JOBS_OF, SELECT_JOB_VARIABLES, SELECT_LAST_BLOCKS, SELECT_META, SELECT_MODE, SELECT_MODES, SELECT_NEEDS_OF}
pub use Rattle.ci_store_rows.specs.declared.texts.TheConstants.{SELECT_NEEDS_ON, SELECT_NEEDS_WITHIN, SELECT_NEWER_PIPELINES, SELECT_NEWEST_PIPELINES, SELECT_PIPELINE}
pub use Rattle.ci_store_rows.specs.declared.texts.TheConstants.{SELECT_PIPELINES_ABOVE, SELECT_PIPELINES_BEFORE, SELECT_PROJECT, SELECT_PROJECTS_ABOVE, SELECT_PROJECT_WITH}
pub use Rattle.ci_store_rows.specs.declared.texts.TheConstants.{SELECT_ROW, SELECT_ROWS_WITH, SELECT_ROWS_WITHIN, SELECT_RUNNER, SELECT_RUNNERS}
pub use Rattle.ci_store_rows.specs.declared.texts.TheConstants.{SELECT_RUNNERS_ABOVE, SELECT_RUNNER_WITH, SELECT_SOME_PIPELINES_BEFORE, SELECT_VARIABLE, SELECT_VARIABLES}
pub use Rattle.ci_store_rows.specs.declared.texts.TheConstants.{UPDATE_ATTEMPT, UPDATE_BLOCK, UPDATE_HOLDER, UPDATE_JOB, UPDATE_JOB_VARIABLE, UPDATE_META, UPDATE_MODE, UPDATE_NEED}
pub use Rattle.ci_store_rows.specs.declared.texts.TheConstants.{UPDATE_PIPELINE, UPDATE_PROJECT, UPDATE_ROW, UPDATE_RUNNER, UPDATE_VARIABLE}
pub use Rattle.ci_store_rows.specs.declared.version1.TheConstants.{SCHEMA}
pub use Rattle.ci_store_rows.specs.declared.version2.TheConstants.{CREATE_MODE}
