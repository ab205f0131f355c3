-- The words of this crate and of those below it, in one place: proofs and the crates above name them from here.
pub use Rattle.ci_store.specs.Made.{AreSome, made_before}
pub use Rattle.ci_store.specs.Stands.{Holds, HoldsAll, HoldsRows, IsOf, are_apart, has_key, image, places, without}
pub use Rattle.ci_store.specs.Statements.{Changes, CommitsNothing, HasPut, KeepsInside}
pub use Rattle.ci_store.specs.Store.{Ends, LoadsBy, UnlessBroken}
pub use Rattle.ci_board.specs.Effects.{is_status, status_number}
pub use Rattle.ci_board.specs.declared.facts.Status.{Status}
pub use Rattle.ci_machine.specs.Eligible.{holds}
pub use Rattle.ci_machine.specs.Groups.{is_mode_of}
pub use Rattle.ci_machine.specs.Holders.{holder_at, holder_cmp}
pub use Rattle.ci_machine.specs.Indexes.{newer_in}
pub use Rattle.ci_machine.specs.Kept.{Kept, cleared, indexed, indexed_all, nothing_kept, put_rows, row_cmp, written}
pub use Rattle.ci_machine.specs.Leases.{is_live}
pub use Rattle.ci_machine.specs.Lookups.{attempt_at, demand_at, demand_of, job_at, last_attempt_by, live_attempts, newest_of, next_of, pipeline_at, project_at, project_variables}
pub use Rattle.ci_machine.specs.Lookups.{project_with, runner_at, runner_with, trace_of, variable_at, variables_of}
pub use Rattle.ci_machine.specs.Ranges.{attempts_within, is_within, needs_within, row_at, rows_with, rows_within}
pub use Rattle.ci_machine.specs.Redundant.{is_newer_of, same_kind}
pub use Rattle.ci_machine.specs.State.{State, applied, attempt_cmp, bytes_or_none, changed, first_numbers, job_cmp, job_variable_cmp, mode_cmp, need_cmp, others, pipeline_cmp}
pub use Rattle.ci_machine.specs.State.{placed, project_cmp, put, runner_cmp, trace_cmp, trace_in, variable_cmp, with_bytes, with_next, with_record, without_all, without_record}
pub use Rattle.ci_machine.specs.Statuses.{attempts_of, jobs_of}
pub use Rattle.ci_machine.specs.Waiting.{mode_at}
pub use Rattle.ci_machine.specs.declared.change.Counter.{Counter}
pub use Rattle.ci_machine.specs.declared.change.IndexChange.{IndexChange}
pub use Rattle.ci_machine.specs.declared.change.IndexChange.TheVariants.{Free}
pub use Rattle.ci_machine.specs.declared.change.Key.{Key}
pub use Rattle.ci_machine.specs.declared.change.Record.{Record}
pub use Rattle.ci_machine.specs.declared.change.RowChange.{RowChange}
pub use Rattle.ci_machine.specs.declared.change.RowChange.TheVariants.{Append, Put}
pub use Rattle.ci_machine.specs.declared.records.Attempt.{Attempt}
pub use Rattle.ci_machine.specs.declared.records.BoardRow.{BoardRow}
pub use Rattle.ci_machine.specs.declared.records.Demand.{Demand}
pub use Rattle.ci_machine.specs.declared.records.GroupMode.{GroupMode}
pub use Rattle.ci_machine.specs.declared.records.GroupOrder.{GroupOrder}
pub use Rattle.ci_machine.specs.declared.records.GroupOrder.TheVariants.{NewestReadyFirst, OldestFirst}
pub use Rattle.ci_machine.specs.declared.records.Holder.{Holder}
pub use Rattle.ci_machine.specs.declared.records.Job.{Job}
pub use Rattle.ci_machine.specs.declared.records.JobOptions.{JobOptions}
pub use Rattle.ci_machine.specs.declared.records.JobVariable.{JobVariable}
pub use Rattle.ci_machine.specs.declared.records.Need.{Need}
pub use Rattle.ci_machine.specs.declared.records.Numbers.{Numbers}
pub use Rattle.ci_machine.specs.declared.records.Pipeline.{Pipeline}
pub use Rattle.ci_machine.specs.declared.records.Project.{Project}
pub use Rattle.ci_machine.specs.declared.records.RefKind.{RefKind}
pub use Rattle.ci_machine.specs.declared.records.RefKind.TheVariants.{Branch, Tag}
pub use Rattle.ci_machine.specs.declared.records.Runner.{Runner}
pub use Rattle.ci_machine.specs.declared.records.Source.{Source}
pub use Rattle.ci_machine.specs.declared.records.Source.TheVariants.{Api, Push, Schedule, Trigger, Web}
pub use Rattle.ci_machine.specs.declared.records.Trace.{Trace}
pub use Rattle.ci_machine.specs.declared.records.Unfinished.{Unfinished}
pub use Rattle.ci_machine.specs.declared.records.Variable.{Variable}
pub use Rattle.sqlite.specs.Cast.{cast, cast_row}
pub use Rattle.sqlite.specs.Command.TheVariants.{CreateIndex, CreateTable, Delete, Insert, Select, Update}
pub use Rattle.sqlite.specs.Does.{AtPlace, Defines, Does, MakesIndex, OnRows, Tally, lacks_sequence}
pub use Rattle.sqlite.specs.Edit.{Edit, edit_of, edited, left_by, taken_by, with_rowid}
pub use Rattle.sqlite.specs.Effect.{Answers, Database, IsDatabase, Reads, value_rows}
pub use Rattle.sqlite.specs.Given.{IsPlain}
pub use Rattle.sqlite.specs.Held.{Held, state}
pub use Rattle.sqlite.specs.Kind.{Kind}
pub use Rattle.sqlite.specs.Kind.TheVariants.{Integer}
pub use Rattle.sqlite.specs.Listing.{IsSourceOf, if_select, is_select, reads_listing}
unfoldable pub use Rattle.sqlite.specs.Listing.{listing_schema, understood}
unfoldable pub use Rattle.sqlite.specs.Ops.{unary}
pub use Rattle.sqlite.specs.Order.{Row, column}
pub use Rattle.sqlite.specs.Program.{overlay}
pub use Rattle.sqlite.specs.Query.{IsAnswer, Output, Query, as_count, end, inner, key_cmp, limited, output, output_cmp}
pub use Rattle.sqlite.specs.Rowids.TheVariants.{Above, Chosen, Given}
pub use Rattle.sqlite.specs.Rows.{Part, Task, Written, stamped}
pub use Rattle.sqlite.specs.Schema.{Schema}
pub use Rattle.sqlite.specs.Source.TheVariants.{Values}
pub use Rattle.sqlite.specs.State.{Executes, FailsToShow, HasCleanDisk, IsRolledBack, IsTooLate, IsUnchanged, KeepsCommit, Shows, ShowsRows, Survives, mode_of, store_error}
unfoldable pub use Rattle.sqlite.specs.State.{CommitsShowing, FailsToQuery, IsNotRun, Shown}
pub use Rattle.sqlite.specs.Store.{Ghosts}
pub use Rattle.sqlite.specs.Table.{Table}
pub use Rattle.sqlite.specs.Term.{Term, col, eval, eval_all, lit, op2}
pub use Rattle.sqlite.specs.Tree.{Trees}
pub use Rattle.sqlite.specs.Value.{owned}
pub use Rattle.sqlite.specs.Values.{bound, bound_value, or_null}
pub use Rattle.sqlite.specs.declared.error.Error.{Error}
pub use Rattle.sqlite.specs.declared.error.Error.TheVariants.{SqlInputError}
pub use Rattle.sqlite.specs.declared.types.Value.{Value}
pub use Rattle.sqlite.specs.declared.types.Value.TheVariants.{Blob, Int, Null, Real, Text}
pub use Rattle.sqlite_catalog.specs.Change.{KeepsRows, created, next_tree, without_table}
pub use Rattle.sqlite_catalog.specs.Listing.{IsDefined, IsIndexRow, IsSound, IsTableRow, IsViewRow, automatic, is_index_row}
pub use Rattle.sqlite_resolve.specs.Compile.{with_command}
unfoldable pub use Rattle.sqlite_resolve.specs.Compile.{command, compiled, first, meaning, planned, returning}
pub use Rattle.sqlite_resolve.specs.Lowering.{Checked, and_then}
pub use Rattle.sqlite_resolve.specs.declared.compiled.Compiled.{Compiled}
pub use Rattle.sqlite_resolve.specs.declared.error.CompileError.{CompileError}
pub use Rattle.sqlite_resolve.specs.declared.error.CompileError.TheVariants.{NoSuchTable}
pub use Rattle.sqlite_rules.specs.Action.{ActsOn, AreChildren, End, Leads, Work, is_child_of, loses, max_depth, pairs, works}
pub use Rattle.sqlite_rules.specs.Calls.{ids_of}
pub use Rattle.sqlite_rules.specs.Edit.{Applies, are_fresh, have_rowids, is_taken}
pub use Rattle.sqlite_rules.specs.Lists.{Has}
pub use Rattle.sqlite_rules.specs.declared.error.Refusal.TheVariants.{TooDeep}
unfoldable pub use Rattle.sqlite_schema.specs.Names.{same_name}
pub use Rattle.sqlite_schema.specs.Rules.{agree, clashes, differ, equal, guards}
pub use Rattle.sqlite_schema.specs.declared.command.Returning.{Returning}
pub use Rattle.sqlite_schema.specs.declared.program.Program.{Program}
pub use Rattle.sqlite_schema.specs.declared.schema.Action.{Action}
pub use Rattle.sqlite_schema.specs.declared.schema.Action.TheVariants.{Cascade, NoAction}
pub use Rattle.sqlite_schema.specs.declared.schema.Column.{Column}
pub use Rattle.sqlite_schema.specs.declared.schema.Constraint.TheVariants.{Unique}
pub use Rattle.sqlite_schema.specs.declared.schema.Index.{Index}
pub use Rattle.sqlite_schema.specs.declared.schema.Keys.{Keys}
pub use Rattle.sqlite_schema.specs.declared.schema.Keys.TheVariants.{Enforced}
pub use Rattle.sqlite_schema.specs.declared.schema.Reference.{Reference}
pub use Rattle.sqlite_sql.specs.Ops.{from_truth, is_null, is_true}
pub use Rattle.sqlite_sql.specs.declared.ops.BinaryOp.TheVariants.{Coalesce, Compare}
pub use Rattle.sqlite_sql.specs.declared.ops.CompareOp.{CompareOp}
pub use Rattle.sqlite_sql.specs.declared.ops.CompareOp.TheVariants.{Eq, Ge, Gt, Le, Lt}
unfoldable pub use Rattle.sqlite_tied.specs.Compute.{everything}
pub use Rattle.sqlite_tied.specs.Text.{index_defined_by}
pub use Rattle.sqlite_trees.specs.Objects.{catalog_tree}
pub use Rattle.sqlite_trees.specs.Tree.{IsAscending, IsTable, has_rowid, without_rowid}
pub use Rattle.sqlite_trees.specs.View.{IsShaped, is_int}
unfoldable pub use Rattle.sqlite_trees.specs.View.{doubt}
pub use Rattle.sqlite_trees.specs.declared.error.StoreError.{StoreError}
pub use Rattle.sqlite_trees.specs.declared.error.StoreError.TheVariants.{Broken, Corrupt, Full, Io, OutOfMemory, Unstorable}
pub use Rattle.sqlite_value.specs.Keys.{ascending, by_key, plain}
unfoldable pub use Rattle.sqlite_value.specs.Keys.{joined}
unfoldable pub use Rattle.sqlite_value.specs.Order.{value_cmp}
