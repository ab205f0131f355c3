-- The words of this crate and of those below it, in one place: proofs and the crates above name them from here.
pub use Rattle.ci_store_sqlite.specs.AnyVersion.{BlamesAny, HadVersion}
pub use Rattle.ci_store_sqlite.specs.Appends.{kept_trace}
pub use Rattle.ci_store_sqlite.specs.Calls.{Loads, LooksUp}
pub use Rattle.ci_store_sqlite.specs.Commit.{CommitsAll, IsBack, IsDone, is_done, is_next_job}
pub use Rattle.ci_store_sqlite.specs.Open.{Blames, HasNumber, IsFailure, LacksNumber, LeavesNoMore, SelectsMeta, open_fault_of}
pub use Rattle.ci_store_sqlite.specs.Version1.{HasTable, LeavesAny, Stands1, StandsIn1, StandsInAny, meta_rows_of_1, rows_of_1, schema_of_1}
pub use Rattle.ci_store_sqlite.specs.declared.tables.OpenFault.{OpenFault}
pub use Rattle.ci_store_sqlite.specs.declared.tables.OpenFault.TheVariants.{Memory, O1, O2, O3}
pub use Rattle.ci_store_rows.specs.Blocks.{StaysWithin, last_block}
pub use Rattle.ci_store_rows.specs.Changes.{Makes, PutsBlock, ShowsNone, appended, in_board, in_state}
pub use Rattle.ci_store_rows.specs.Create.{IsBare, IsBlank}
pub use Rattle.ci_store_rows.specs.Found.{FindsNumber, ShowsRecords, listed}
pub use Rattle.ci_store_rows.specs.Load.{bytes_in}
pub use Rattle.ci_store_rows.specs.Rows.{block_row, board_row, holder_row, mode_row, number}
pub use Rattle.ci_store_rows.specs.Schema.{meta, mode, the_schema}
pub use Rattle.ci_store_rows.specs.Stands.{IsAt, LeavesEither, LeavesOnly, Rises, Stands, StandsIn, counter_key, meta_row, meta_rows, rows_by_tree, rows_of}
pub use Rattle.ci_store_rows.specs.declared.block.Block.{Block}
pub use Rattle.ci_store_rows.specs.declared.block.TheConstants.{BLOCK_BYTES}
pub use Rattle.ci_store_rows.specs.declared.columns.TheConstants.{LAST_INTEGER}
pub use Rattle.ci_store_rows.specs.declared.texts.TheConstants.{INSERT_META, SELECT_BLOCKS, SELECT_LAST_BLOCKS, SELECT_META, SELECT_ROWS_WITH, UPDATE_META}
pub use Rattle.ci_store_rows.specs.declared.version2.TheConstants.{CREATE_MODE}
