-- The words of this crate and of those below it, in one place: proofs and the crates above name them from here.
pub use Rattle.ci_server.specs.Due.{FindsNothingDue, LeavesNothingDue}
pub use Rattle.ci_server.specs.Handling.{Call, Handled, Performs, answer_by, answered, closed_by, commit_failed, look_failed, no_memory, refused}
pub use Rattle.ci_server.specs.Holding.{Holds, HoldsIn, IsKeptOf, KeepsGroups, Leaves, LeavesIn, StandsAs, StandsFor}
pub use Rattle.ci_server.specs.Lifetime.{Beginning, Begins, ComesOf, HasNewest, IsHistoryOf, IsReachedBy, KeepsItsGroups, LosesNoStep, Operation, Recovers, begins_shut, called}
pub use Rattle.ci_server.specs.Lifetime.{called_each, earlier_of, has_failed, is_of_2, opened, unopened, was_found, was_found_shut, was_made}
pub use Rattle.ci_server.specs.Repeats.{IsUnchanged, LeavesRepeats, LivesRepeat, Repeats, RunsRepeats}
pub use Rattle.ci_server.specs.Reports.{Reported, Reports, ReportsBy, TellsNothing, TellsPipelineAt, TellsQueue, TellsRunners, closed_after, report_of}
pub use Rattle.ci_server.specs.Runs.{GoesOn, IsRun, IsUnanswered, NoneFailed, OneMore, Runs, by_outcome, line}
pub use Rattle.ci_server.specs.Server.{Creates, FailsToOpen, Handles, HandlesBy, HandlesEach, HandlesEachBy, IsHonest, Opens, closed_by_each, each_refused}
pub use Rattle.ci_server.specs.Servers.{ServerOver}
pub use Rattle.ci_server.specs.Settled.{AddsUnanswered, AreSettled, HasOneHistory, Histories, IsFileOf, LeavesOne, LeavesTwo, StandsBy, first_failed, unanswered}
pub use Rattle.ci_server.specs.declared.fail_stop.FailStop.{FailStop}
