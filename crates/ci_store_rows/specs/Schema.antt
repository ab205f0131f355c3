-- The tables and the indexes, as their texts define them.
use Rattle.std.specs.Prelude.{ℕ, Bool, true, false, List, [], ◌∷◌, map, Option, Some, None, codes}
use Rattle.sqlite.specs.Collation.TheVariants.{Binary}
use Rattle.ci_store.specs.Prelude.{Null, Table, Schema, Index, Column, Reference, Action, NoAction, Cascade, plain, automatic, Kind, Integer}
use Rattle.sqlite.specs.Kind.TheVariants.{Text, Blob}

-- a column of a strict table: its name, its type, and whether it is NOT NULL
abbrev column : List ℕ → Kind → Bool → Column
column name kind not_null = record { name = name; kind = kind; is_strict = true; not_null = not_null; default = Null; collation = Binary }

-- a column that refers to the number of another table's row
abbrev refers : ℕ → List ℕ → Action → Reference
refers place parent on_delete = record { columns = place ∷ []; parent = parent; parent_columns = codes "id" ∷ []; on_delete = on_delete; on_update = NoAction; is_deferred = false }

-- a column that is NOT NULL
abbrev integer : List ℕ → Column
integer name = column name Integer true

abbrev text : List ℕ → Column
text name = column name Text true

-- a table: its name, tree and columns, the place of a column that is its number, its key, what is unique, and what it refers to
abbrev made : List ℕ → ℕ → List Column → Option ℕ → List ℕ → List (List ℕ) → List Reference → Table
made name tree columns key primary uniques references = record {
  name = name;
  tree = tree;
  columns = columns;
  key = key;
  primary = primary;
  uniques = uniques;
  orders = map (λ _. plain) uniques;
  checks = [];
  references = references;
  computed = [];
  stamps = record { places = []; terms = []; formats = [] };
  is_counted = false;
}

-- a table whose key is its first column, a number
abbrev numbered : List ℕ → ℕ → List Column → List (List ℕ) → List Reference → Table
numbered name tree columns = made name tree columns (Some 0) (0 ∷ [])

-- a table whose key is the columns at these places of its rows, after the rowid
abbrev keyed : List ℕ → ℕ → List Column → List ℕ → List Reference → Table
keyed name tree columns primary = made name tree columns None primary (primary ∷ [])

abbrev pub meta : Table
meta = keyed (codes "meta") 0 (text (codes "key") ∷ integer (codes "num") ∷ []) (1 ∷ []) []

abbrev pub meta_index_1 : Index
meta_index_1 = automatic meta 0 (1 ∷ []) 1

abbrev pub project : Table
project =
    numbered (codes "project") 2 (column (codes "id") Integer false ∷ text (codes "name") ∷ text (codes "token") ∷ column (codes "file") Text false ∷ []) ((3 ∷ []) ∷ []) []

abbrev pub project_index_1 : Index
project_index_1 = automatic project 0 (3 ∷ []) 3

abbrev pub runner : Table
runner =
    numbered (codes "runner") 4
    (column (codes "id") Integer false ∷ text (codes "name") ∷ text (codes "token") ∷ column (codes "project") Integer false ∷ text (codes "tags")
    ∷ integer (codes "untagged") ∷ integer (codes "paused") ∷ [])
    ((3 ∷ []) ∷ []) (refers 4 (codes "project") NoAction ∷ [])

abbrev pub runner_index_1 : Index
runner_index_1 = automatic runner 0 (3 ∷ []) 5

abbrev pub pipeline : Table
pipeline =
    numbered (codes "pipeline") 6
    (column (codes "id") Integer false ∷ integer (codes "project") ∷ text (codes "ref") ∷ integer (codes "kind") ∷ integer (codes "source")
    ∷ integer (codes "created") ∷ [])
    [] (refers 2 (codes "project") NoAction ∷ [])

abbrev pub job : Table
job =
    numbered (codes "job") 7
    (column (codes "id") Integer false ∷ integer (codes "pipeline") ∷ integer (codes "pos") ∷ text (codes "name") ∷ text (codes "stage")
    ∷ text (codes "spec") ∷ integer (codes "played") ∷ integer (codes "cancelled") ∷ integer (codes "aside") ∷ [])
    [] (refers 2 (codes "pipeline") Cascade ∷ [])

abbrev pub job_pipeline : Index
job_pipeline = record { name = codes "job_pipeline"; tree = 8; table = 7; columns = 2 ∷ []; order = plain; is_unique = false }

abbrev pub jobvar : Table
jobvar = keyed (codes "jobvar") 9 (integer (codes "job") ∷ text (codes "key") ∷ text (codes "value") ∷ []) (1 ∷ 2 ∷ []) (refers 1 (codes "job") Cascade ∷ [])

abbrev pub jobvar_index_1 : Index
jobvar_index_1 = automatic jobvar 0 (1 ∷ 2 ∷ []) 10

abbrev pub attempt : Table
attempt =
    numbered (codes "attempt") 11
    (column (codes "id") Integer false ∷ integer (codes "job") ∷ integer (codes "runner") ∷ text (codes "token") ∷ integer (codes "granted")
    ∷ integer (codes "seen") ∷ integer (codes "state") ∷ column (codes "cause") Integer false ∷ column (codes "exit") Integer false ∷ [])
    [] (refers 2 (codes "job") Cascade ∷ refers 3 (codes "runner") NoAction ∷ [])

abbrev pub attempt_job : Index
attempt_job = record { name = codes "attempt_job"; tree = 12; table = 11; columns = 2 ∷ []; order = plain; is_unique = false }

abbrev pub attempt_state : Index
attempt_state = record { name = codes "attempt_state"; tree = 13; table = 11; columns = 7 ∷ []; order = plain; is_unique = false }

-- blocks of traces
abbrev pub piece : Table
piece =
    keyed (codes "piece") 14 (integer (codes "attempt") ∷ integer (codes "seq") ∷ column (codes "bytes") Blob true ∷ []) (1 ∷ 2 ∷ []) (refers 1 (codes "attempt") Cascade ∷ [])

abbrev pub piece_index_1 : Index
piece_index_1 = automatic piece 0 (1 ∷ 2 ∷ []) 15

-- the job of the second column is one that the first one's waits for
abbrev pub need : Table
need = keyed (codes "need") 16 (integer (codes "job") ∷ integer (codes "pred") ∷ []) (1 ∷ 2 ∷ []) (refers 1 (codes "job") Cascade ∷ refers 2 (codes "job") Cascade ∷ [])

abbrev pub need_index_1 : Index
need_index_1 = automatic need 0 (1 ∷ 2 ∷ []) 17

abbrev pub need_pred : Index
need_pred = record { name = codes "need_pred"; tree = 18; table = 16; columns = 2 ∷ []; order = plain; is_unique = false }

abbrev pub board : Table
board =
    numbered (codes "board") 19
    (column (codes "job") Integer false ∷ integer (codes "status") ∷ integer (codes "open") ∷ integer (codes "failed") ∷ integer (codes "barred")
    ∷ [])
    [] (refers 0 (codes "job") Cascade ∷ [])

-- by the status, and of one status by the job, which is the rowid
abbrev pub board_status : Index
board_status = record { name = codes "board_status"; tree = 20; table = 19; columns = 2 ∷ 0 ∷ []; order = plain; is_unique = false }

abbrev pub variable : Table
variable = keyed (codes "variable") 21 (integer (codes "project") ∷ text (codes "key") ∷ text (codes "value") ∷ []) (1 ∷ 2 ∷ []) (refers 1 (codes "project") NoAction ∷ [])

abbrev pub variable_index_1 : Index
variable_index_1 = automatic variable 0 (1 ∷ 2 ∷ []) 22

-- the resource groups that live attempts hold
abbrev pub holder : Table
holder =
    keyed (codes "holder") 23
    (integer (codes "project") ∷ text (codes "grp") ∷ integer (codes "attempt") ∷ [])
    (1 ∷ 2 ∷ []) (refers 1 (codes "project") NoAction ∷ refers 3 (codes "attempt") Cascade ∷ [])

abbrev pub holder_index_1 : Index
holder_index_1 = automatic holder 0 (1 ∷ 2 ∷ []) 24

abbrev pub holder_attempt : Index
holder_attempt = record { name = codes "holder_attempt"; tree = 25; table = 23; columns = 3 ∷ []; order = plain; is_unique = false }

-- by the project and by what a pipeline runs for, and of one such by number
abbrev pub pipeline_ref : Index
pipeline_ref = record { name = codes "pipeline_ref"; tree = 26; table = 6; columns = 2 ∷ 3 ∷ 4 ∷ 0 ∷ []; order = plain; is_unique = false }

-- by the runner, and of one runner by number
abbrev pub attempt_runner : Index
attempt_runner = record { name = codes "attempt_runner"; tree = 27; table = 11; columns = 3 ∷ 0 ∷ []; order = plain; is_unique = false }

-- by the moment when a pipeline was made
abbrev pub pipeline_created : Index
pipeline_created = record { name = codes "pipeline_created"; tree = 28; table = 6; columns = 6 ∷ []; order = plain; is_unique = false }

-- the process modes of resource groups that aren't unordered
abbrev pub mode : Table
mode = keyed (codes "mode") 29 (integer (codes "project") ∷ text (codes "grp") ∷ integer (codes "mode") ∷ []) (1 ∷ 2 ∷ []) (refers 1 (codes "project") NoAction ∷ [])

abbrev pub mode_index_1 : Index
mode_index_1 = automatic mode 0 (1 ∷ 2 ∷ []) 30

abbrev pub the_schema : Schema
the_schema = record {
  tables = meta ∷ project ∷ runner ∷ pipeline ∷ job ∷ jobvar ∷ attempt ∷ piece ∷ need ∷ board ∷ variable ∷ holder ∷ mode ∷ [];
  indexes = meta_index_1 ∷ project_index_1 ∷ runner_index_1 ∷ job_pipeline ∷ jobvar_index_1 ∷ attempt_job ∷ attempt_state ∷ piece_index_1 ∷ need_index_1 ∷ need_pred ∷ board_status ∷ variable_index_1 ∷ holder_index_1 ∷ holder_attempt ∷ pipeline_ref ∷ attempt_runner ∷ pipeline_created ∷ mode_index_1 ∷ [];
  views = [];
}
