-- A pipeline with its records, as they are looked up.
use Rattle.std.specs.Prelude.{◌≡◌, ℕ, Some}
use Rattle.ci_machine_steps.specs.Prelude.{Kept, holders, pipeline_at, claims_ahead, groups_in}
use Rattle.ci_machine_statuses.specs.Lookups.{AreRecords}
use Rattle.ci_server_lookups.specs.declared.records.Records.{Records}
use Rattle.ci_server_lookups.specs.declared.records.Whole.{Whole}
use Rattle.ci_server_lookups.specs.Held.{HoldAlike, FreeAlike}

-- what was looked up are the records of a pipeline
abbrev pub AreOf : Kept → ℕ → Records → Type 0
AreOf k pipeline r = AreRecords k.state k.board pipeline r.jobs.items r.needs.items r.attempts.items r.rows.items

-- what was looked up is the pipeline with this number, its records, who holds the groups of its jobs, and in which of them others go first
pub record IsWhole (k : Kept) (pipeline : ℕ) (w : Whole) : Type 0 where
  pub there : pipeline_at k.state pipeline ≡ Some w.pipeline
  pub records : AreOf k pipeline w.records
  pub held : HoldAlike w.held.items (holders k.state) w.pipeline.project w.records.jobs.items
  pub ahead : FreeAlike w.ahead.items (claims_ahead (groups_in k.state k.board) pipeline) w.pipeline.project w.records.jobs.items
