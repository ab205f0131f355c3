-- The words of this crate and of those below it, in one place: proofs and the crates above name them from here.
pub use Rattle.ci_server_lookups.specs.Faults.{as_store_fault}
pub use Rattle.ci_server_lookups.specs.Held.{FreeAlike, HoldAlike, ahead_for, claim_if, frees, holder_for, is_unheld, still_held}
pub use Rattle.ci_server_lookups.specs.Keeps.{HoldsKept, IsKept}
pub use Rattle.ci_server_lookups.specs.Records.{AreOf, IsWhole}
pub use Rattle.ci_server_lookups.specs.Search.{IsOffered}
pub use Rattle.ci_server_lookups.specs.Sheets.{IsRight}
pub use Rattle.ci_server_lookups.specs.Turns.{IsTurn, is_past}
pub use Rattle.ci_server_lookups.specs.Unfinished.{AreOpen, has_number, keeps_open, opens, opens_with}
pub use Rattle.ci_server_lookups.specs.declared.records.Records.{Records}
pub use Rattle.ci_machine_statuses.specs.Acts.{IsOutcome, act_changes, acted_jobs, acted_state, ended_leases, is_acted_on, is_permitted, marked, shows_job_by, shows_pipeline_by}
pub use Rattle.ci_machine_statuses.specs.Boards.{IsGraphOf}
pub use Rattle.ci_machine_statuses.specs.Changes.{HasLive, IsMade, LeavesStatuses, started_row}
pub use Rattle.ci_machine_statuses.specs.Ends.{IsSettled, ended_state}
pub use Rattle.ci_machine_statuses.specs.HolderChanges.{of_pipeline, opened, turned_by, unleased}
pub use Rattle.ci_machine_statuses.specs.Lookups.{AreRecords}
pub use Rattle.ci_machine_statuses.specs.declared.act.Act.{Act}
pub use Rattle.ci_machine_statuses.specs.declared.act.Act.TheVariants.{Cancel, Play, Retry}
pub use Rattle.ci_machine_statuses.specs.declared.end.Settled.{Settled}
pub use Rattle.ci_machine_statuses.specs.declared.fault.StatusFault.{StatusFault}
pub use Rattle.ci_machine_statuses.specs.declared.outcome.Outcome.{Outcome}
pub use Rattle.ci_store.specs.declared.fault.StoreFault.{StoreFault}
pub use Rattle.ci_store.specs.declared.fault.StoreFault.TheVariants.{Broken, Memory}
