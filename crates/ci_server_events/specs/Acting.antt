-- A user acts on a job: what the machine does, whichever act it is.
use Rattle.std.specs.Prelude.{ℕ, ◌==◌, List, [], ◌∷◌, filter, Option, Result}
use Rattle.ci_machine_steps.specs.Prelude.{Job, Attempt, BoardRow, Claim, RowChange, IndexChange, Code, M10, M11, M12, State, Kept, put_rows, written, AreIndexes, claims_in, Plan}
use Rattle.ci_machine_steps.specs.Prelude.{permitted, ActsOn, play, retry, cancel}
use Rattle.ci_server_lookups.specs.Prelude.{Act, Play, Retry, Cancel, Outcome, is_permitted, act_changes, acted_jobs, acted_state, IsOutcome, FreeAlike}
use Rattle.ci_server_lookups.specs.declared.records.Whole.{Whole}

-- the code that refuses it to a job whose status doesn't permit it
abbrev pub refusal_of : Act → Code
refusal_of Play = M10
refusal_of Retry = M11
refusal_of Cancel = M12

-- it is done to the job that was found, unless a code refuses it
abbrev pub ActsAs : Act → State → List BoardRow → Result Job Code → Plan → Type 0
ActsAs act s board found plan = ActsOn s (λ j. act_changes act s (j ∷ [])) (permitted board (λ status. is_permitted act status) (refusal_of act) found) plan

-- the changes by which it is done to a job, of attempts that are at least its own
abbrev pub changes_by : Act → List Attempt → Job → List RowChange
changes_by Play attempts j = play j
changes_by Retry attempts j = retry (filter (λ a. a.job == j.id) attempts) j
changes_by Cancel attempts j = cancel attempts (j ∷ [])

-- What is done to jobs of a pipeline, of what was looked up of it: what becomes of its jobs, which of the groups that are held and
-- of the pipelines that aren't finished change, and for which of their groups its jobs must wait after it.
pub record IsDone (act : Act) (only : Option ℕ) (k : Kept) (pipeline : ℕ) (w : Whole) (o : Outcome) (indexes : List IndexChange) (claims : List Claim) : Type 0 where
  pub outcome : IsOutcome act only k.state k.board pipeline o
  pub are_indexes : AreIndexes (written (act_changes act k.state (acted_jobs act only k.state k.board pipeline)) o.changed.items indexes k)
  pub alike : FreeAlike claims (claims_in (acted_state act only k.state k.board pipeline) (put_rows o.changed.items k.board) pipeline) w.pipeline.project w.records.jobs.items
