-- What a tree configures: the entries of the file are read in their order, and then the jobs are judged.
use Rattle.std.specs.Prelude.{◌≡◌, ℕ, zero, suc, Bool, true, false, List, [], ◌∷◌, ◌++◌, Result, Ok, Err, unwrap_or, not, ◌||◌, filter, codes, if◌then◌else◌}
use Rattle.std.specs.Str.{bytes_eq}
use Rattle.ci_yaml_lines.specs.Prelude.{Value}
use Rattle.ci_config.specs.Fault.{Fault, K1, K5, K6, K15, Placed}
use Rattle.ci_config.specs.Reading.{◌>>=◌, demand, demand_at}
use Rattle.ci_config.specs.Config.{Text, Job, Config}
use Rattle.ci_config.specs.Expressions.{Patterns}
use Rattle.ci_config.specs.Files.{FileSaid, is_among, file_from}
use Rattle.ci_config.specs.Values.{is_map, map_of}

-- `.pre`, the listed stages but for `.pre` and `.post`, and `.post`
abbrev pub pre : Text
pre = codes ".pre"

abbrev pub post : Text
post = codes ".post"

abbrev pub is_inner : Text → Bool
is_inner stage = not (bytes_eq stage pre || bytes_eq stage post)

abbrev pub default_stages : List Text
default_stages = codes "build" ∷ codes "test" ∷ codes "deploy" ∷ []

abbrev pub all_stages : List Text → List Text
all_stages listed = pre ∷ (filter is_inner listed ++ post ∷ [])

abbrev pub config_of : FileSaid → Config
config_of f = record { stages = all_stages (unwrap_or f.stages default_stages); variables = f.variables; jobs = f.jobs }

-- ---- and then

abbrev pub is_nil : {A : Type 0} → List A → Bool
is_nil [] = true
is_nil (x ∷ xs) = false

-- how many entries stand before the first with a key
abbrev pub index_of : List (Text × Value) → Text → ℕ
index_of [] key = zero
index_of (m ∷ ms) key = if bytes_eq m.0 key then zero else suc (index_of ms key)

-- A job has a script, and then its stage is one of the stages; else the whole job is to blame, which stands behind so many entries.
abbrev pub job_judged : ℕ → List Text → Job → Result Config Placed → Result Config Placed
job_judged before stages j next = demand_at (before ∷ []) (not (is_nil j.script)) K5 (demand_at (before ∷ []) (is_among stages j.stage) K6 next)

-- job by job, of a file with these entries
abbrev pub jobs_judged : List (Text × Value) → List Text → List Job → Result Config Placed → Result Config Placed
jobs_judged ms stages [] next = next
jobs_judged ms stages (j ∷ js) next = job_judged (index_of ms j.name) stages j (jobs_judged ms stages js next)

-- and there is a job
abbrev pub judged : List (Text × Value) → Config → Result Config Placed
judged ms c = jobs_judged ms c.stages c.jobs (demand (not (is_nil c.jobs)) K15 (Ok c))

abbrev pub file_config : List (Text × Value) → Patterns → Result Config Placed
file_config ms p = file_from ms p >>= λ f. judged ms (config_of f)

-- what a tree configures, or its first fault and where it is, where these patterns are built
abbrev pub reading : Patterns → Value → Result Config Placed
reading builds v = demand (is_map v) K1 (map_of v >>= λ ms. file_config ms builds)

-- the same without where the fault is
abbrev pub unplaced : {A : Type 0} → Result A Placed → Result A Fault
unplaced (Ok x) = Ok x
unplaced (Err f) = Err f.fault

abbrev pub meaning : Patterns → Value → Result Config Fault
meaning builds v = unplaced (reading builds v)

-- Which patterns are built isn't said: some choice of them gives this, with where a fault is and without.
abbrev pub MeansAt : Value → Result Config Placed → Type 0
MeansAt v r = (builds : Patterns) × (reading builds v ≡ r)

abbrev pub Means : Value → Result Config Fault → Type 0
Means v r = (builds : Patterns) × (meaning builds v ≡ r)
