-- What the rows that are read hold.
use Rattle.std.specs.Prelude.{◌≡◌, ℕ, List, [], ◌∷◌, Option}
use Rattle.ci_store.specs.Prelude.{Value, Text, Blob, or_null, Row, Runner, Job, JobOptions, Demand}
use Rattle.ci_machine.specs.Prelude.{AttemptState}
use Rattle.ci_store_rows.specs.Reads.{ReadsList, ReadsSpec, ReadsDemand}
use Rattle.ci_store_rows.specs.Rows.{number, flag, state_number, cause_in, exit_in}

-- the three columns are those of the state
abbrev pub HasState : ℕ → Option ℕ → Option ℕ → AttemptState → Type 0
HasState number cause exit state = (number ≡ state_number state) × (cause ≡ cause_in state) × (exit ≡ exit_in state)

-- the value is a text that can be read as the list of these texts alone
abbrev pub HoldsList : Value → List (List ℕ) → Type 0
HoldsList value texts = (text : List ℕ) × (value ≡ Text text) × ReadsList text texts

-- the bytes of a value, and none where it is of another kind
abbrev pub bytes_in : Value → List ℕ
bytes_in (Blob bytes) = bytes
bytes_in _ = []

abbrev pub HoldsSpec : Value → JobOptions → Type 0
HoldsSpec value spec = (text : List ℕ) × (value ≡ Text text) × ReadsSpec text spec

-- the values of a runner's row, with this text of its tags
abbrev pub runner_cells : Runner → List ℕ → Row
runner_cells r text = number r.id ∷ Text r.name ∷ Text r.token ∷ or_null number r.project ∷ Text text ∷ flag r.untagged ∷ flag r.paused ∷ []

abbrev pub IsRunnerRow : Row → Runner → Type 0
IsRunnerRow row r = (text : List ℕ) × (row ≡ runner_cells r text) × ReadsList text r.tags

-- the values of a job's row, with this text of what was fixed of it
abbrev pub job_cells : Job → List ℕ → Row
job_cells j spec = number j.id ∷ number j.pipeline ∷ number j.position ∷ Text j.name ∷ Text j.stage ∷ Text spec ∷ flag j.played ∷ flag j.cancelled ∷ number j.set_aside ∷ []

abbrev pub IsJobRow : Row → Job → Type 0
IsJobRow row j = (spec : List ℕ) × (row ≡ job_cells j spec) × ReadsSpec spec j.options

-- the values of the columns that tell what a job asks of a runner
abbrev pub demand_cells : Demand → List ℕ → Row
demand_cells d spec = number d.job ∷ number d.pipeline ∷ Text spec ∷ []

abbrev pub IsDemandRow : Row → Demand → Type 0
IsDemandRow row d = (spec : List ℕ) × (row ≡ demand_cells d spec) × ReadsDemand spec d
