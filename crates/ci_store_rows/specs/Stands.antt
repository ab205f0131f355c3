-- What it means that the tables of a database stand for what is kept: a state, the rows of its jobs' statuses, and the groups that are
-- held. Which pipelines aren't finished stands in no table, so the tables stand for what is kept whatever it says of them.
use Rattle.std.specs.Prelude.{◌≡◌, ◌⊎◌, ℕ, ◌==◌, if◌then◌else◌, List, [], ◌∷◌, map, codes, Some, IsTrue}
use Rattle.std.specs.List.{AllByRecursion}
use Rattle.std.specs.declared.cmp.Ordering.{Ordering}
use Rattle.std.specs.declared.cmp.Ordering.TheVariants.{Less}
use Rattle.ci_store.specs.Prelude.{Text, Row, Trees, Database, Ghosts, Held, state, IsAscending, Kept, row_cmp, holder_cmp, project_cmp, variable_cmp, runner_cmp, pipeline_cmp}
use Rattle.ci_store.specs.Prelude.{job_cmp, job_variable_cmp, need_cmp, attempt_cmp, trace_cmp, mode_cmp, Numbers, Counter, HoldsRows}
use Rattle.serde_json.specs.Read.{read}
use Rattle.ci_store_rows.specs.JsonText.{list_data, list_text, spec_data, spec_text}
use Rattle.ci_store_rows.specs.Schema as table
use Rattle.ci_store_rows.specs.Schema.{the_schema}
use Rattle.ci_store_rows.specs.Blocks.{all_blocks}
use Rattle.ci_store_rows.specs.Rows.{number, project_row, variable_row, runner_row, pipeline_row, job_row, job_variable_row, need_row, attempt_row, block_row, board_row, holder_row, mode_row}

abbrev pub meta_row : List ℕ → ℕ → Row
meta_row key num = Text key ∷ number num ∷ []

-- the key of a next number
abbrev pub counter_key : Counter → List ℕ
counter_key Counter.Project = codes "next_project"
counter_key Counter.Runner = codes "next_runner"
counter_key Counter.Pipeline = codes "next_pipeline"
counter_key Counter.Job = codes "next_job"
counter_key Counter.Attempt = codes "next_attempt"

-- the format, the version and the next numbers
abbrev pub meta_rows : Numbers → List Row
meta_rows next =
    meta_row (codes "format") 1128878163 ∷ meta_row (codes "version") 2 ∷ meta_row (codes "next_project") next.project ∷ meta_row (codes "next_runner") next.runner
    ∷ meta_row (codes "next_pipeline") next.pipeline ∷ meta_row (codes "next_job") next.job ∷ meta_row (codes "next_attempt") next.attempt ∷ []

-- the rows of each table, with its tree
abbrev pub rows_by_tree : Kept → List (ℕ × List Row)
rows_by_tree k =
    (table.meta.tree, meta_rows k.state.next)
    ∷ (table.project.tree, map project_row k.state.projects)
    ∷ (table.runner.tree, map runner_row k.state.runners)
    ∷ (table.pipeline.tree, map pipeline_row k.state.pipelines)
    ∷ (table.job.tree, map job_row k.state.jobs)
    ∷ (table.jobvar.tree, map job_variable_row k.state.job_variables)
    ∷ (table.attempt.tree, map attempt_row k.state.attempts)
    ∷ (table.piece.tree, map block_row (all_blocks k.state.traces))
    ∷ (table.need.tree, map need_row k.state.needs)
    ∷ (table.board.tree, map board_row k.board)
    ∷ (table.variable.tree, map variable_row k.state.variables)
    ∷ (table.holder.tree, map holder_row k.holders)
    ∷ (table.mode.tree, map mode_row k.state.modes)
    ∷ []

-- the rows of this tree, and none where it is no table's
abbrev pub rows_at : ℕ → List (ℕ × List Row) → List Row
rows_at tree [] = []
rows_at tree (t ∷ more) = if tree == t.0 then t.1 else rows_at tree more

-- the rows of the table that has this tree
abbrev pub rows_of : Kept → ℕ → List Row
rows_of k tree = rows_at tree (rows_by_tree k)

-- each record is strictly below those after it
abbrev pub Rises : {A : Type 0} → (A → A → Ordering) → List A → Type 0
Rises cmp = IsAscending (λ a b. cmp a b ≡ Less)

-- each list is in the order of its key, which no two records share, and the JSON of each record reads as what it was written of
pub record IsRegular (k : Kept) : Type 0 where
  pub projects : Rises project_cmp k.state.projects
  pub variables : Rises variable_cmp k.state.variables
  pub runners : Rises runner_cmp k.state.runners
  pub pipelines : Rises pipeline_cmp k.state.pipelines
  pub jobs : Rises job_cmp k.state.jobs
  pub job_variables : Rises job_variable_cmp k.state.job_variables
  pub needs : Rises need_cmp k.state.needs
  pub attempts : Rises attempt_cmp k.state.attempts
  pub traces : Rises trace_cmp k.state.traces
  pub modes : Rises mode_cmp k.state.modes
  pub board : Rises row_cmp k.board
  pub holders : Rises holder_cmp k.holders
  pub tags : AllByRecursion (λ r. read (list_text r.tags) ≡ Some (list_data r.tags)) k.state.runners
  pub specs : AllByRecursion (λ j. read (spec_text j.options) ≡ Some (spec_data j.options)) k.state.jobs

-- the trees of a file, as a stop may leave them, stand for what is kept
pub record StandsIn (k : Kept) (db : Trees) : Type 0 where
  pub tables : HoldsRows the_schema (rows_of k) db
  pub regular : IsRegular k

-- a database of this schema alone stands for what is kept
pub record Stands (k : Kept) (db : Database) : Type 0 where
  pub listed : db.schema ≡ the_schema
  pub inside : StandsIn k db.trees

-- The tables keep this: they are open, stand for it, and so does each file that a stop may leave.
pub record IsAt {S : Type 0} (g : Ghosts S) (k : Kept) (h : Held S) : Type 0 where
  pub is_open : IsTrue (state g h).is_open
  pub now : Stands k (state g h).now
  pub left : (db : Trees) → (state g h).may_leave db → StandsIn k db

-- each file that a stop may leave stands for this
abbrev pub LeavesOnly : {S : Type 0} → Ghosts S → Kept → Held S → Type 0
LeavesOnly g k h = (db : Trees) → (state g h).may_leave db → StandsIn k db

-- each stands for one of the two
abbrev pub LeavesEither : {S : Type 0} → Ghosts S → Kept → Kept → Held S → Type 0
LeavesEither g k l h = (db : Trees) → (state g h).may_leave db → StandsIn k db ⊎ StandsIn l db
