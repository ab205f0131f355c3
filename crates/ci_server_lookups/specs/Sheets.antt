-- The records of a pipeline, as one sheet, and when that is right.
use Rattle.std.specs.Prelude.{◌≡◌, true, All, IfSome}
use Rattle.ci_machine_steps.specs.Prelude.{Kept, is_within, needs_within, attempts_within, rows_within, jobs_of}
use Rattle.ci_machine_statuses.specs.Boards.{IsGraphOf}
use Rattle.ci_server_lookups.specs.declared.sheet.Sheet.{Sheet}

-- What a sheet has of a pipeline is right: its jobs, which stand between the two numbers; the needs, the attempts and the rows of the jobs
-- between these; and the graph of these jobs, if it has one.
pub record IsRight (m : Sheet) (k : Kept) : Type 0 where
  pub jobs : m.jobs.items ≡ jobs_of k.state m.pipeline
  pub inside : All (λ j. is_within m.first m.last j.id ≡ true) m.jobs.items
  pub needs : m.needs.items ≡ needs_within m.first m.last k.state.needs
  pub attempts : m.attempts.items ≡ attempts_within m.first m.last k.state.attempts
  pub rows : m.rows.items ≡ rows_within m.first m.last k.board
  pub graph : IfSome m.graph (λ g. IsGraphOf g m.jobs.items m.needs.items)
