-- The words of this crate and of those below it, in one place: proofs and the crates above name them from here.
pub use Rattle.ci_board.specs.Effects.{effect, idle_status, is_allowed, is_bar, is_fail, is_met, is_open, is_status, status_by, status_number, status_of_effects, waits_for_play}
pub use Rattle.ci_board.specs.Pass.{PassState, both, corrected, differs, first_row, idle_by_counts, is, is_met_by_counts, moved, moved_row, next_status, passed, put, same_effect}
pub use Rattle.ci_board.specs.Pass.{same_test, side, status_of_row, stepped, was}
pub use Rattle.ci_board.specs.PipelineStatus.{answers_yes, pipeline_status, some_job}
pub use Rattle.ci_board.specs.Rows.{AreNumbered, AreRows, BoardState, IsAnswer, degrees, differing, is_named, is_touched, replaced, same_row}
pub use Rattle.ci_board.specs.Standing.{is_live, standing}
pub use Rattle.ci_board.specs.Statuses.{HaveAssignment, IsAssignment, IsStatusOf, effects_of, facts_at, no_facts, no_row, row_at, statuses}
pub use Rattle.ci_board.specs.Texts.{status_text}
pub use Rattle.ci_board.specs.declared.facts.Effect.{Effect}
pub use Rattle.ci_board.specs.declared.facts.Effect.TheVariants.{Bars, Fails, Good, Open}
pub use Rattle.ci_board.specs.declared.facts.Facts.{Facts}
pub use Rattle.ci_board.specs.declared.facts.FactsChange.{FactsChange}
pub use Rattle.ci_board.specs.declared.facts.Row.{Row}
pub use Rattle.ci_board.specs.declared.facts.Status.{Status}
pub use Rattle.ci_board.specs.declared.pass.Effects.{Effects}
pub use Rattle.ci_graph.specs.JobGraph.{IsJobGraph, JobGraph, no_part, part_at, part_of, predecessors_of, successors_of}
pub use Rattle.ci_graph.specs.Lists.{distinct, is_among, number_at, once, tally, times}
pub use Rattle.ci_graph.specs.Pairs.{firsts_of}
pub use Rattle.ci_graph.specs.declared.part.Part.{Part}
pub use Rattle.ci_values.specs.Attempts.{is_live_state}
pub use Rattle.ci_values.specs.declared.attempts.AttemptState.{AttemptState}
pub use Rattle.ci_values.specs.declared.attempts.AttemptState.TheVariants.{Cancelled, Failed, Live, Succeeded}
pub use Rattle.ci_values.specs.declared.attempts.Cause.{Cause}
pub use Rattle.ci_values.specs.declared.attempts.Cause.TheVariants.{ApiFailure, JobExecutionTimeout, RunnerSystemFailure, ScriptFailure, StuckOrTimeoutFailure, UnknownFailure}
pub use Rattle.ci_values.specs.declared.when.When.{When}
pub use Rattle.ci_values.specs.declared.when.When.TheVariants.{Always, Manual, OnFailure, OnSuccess}
