-- The state: finite lists of records, each in the order of its keys, and the next numbers.
use Rattle.std.specs.Prelude.{ℕ, not, List, [], ◌∷◌, ◌++◌, ◌==◌, filter, find, Option, Some, None, if◌then◌else◌}
use Rattle.std.specs.declared.cmp.Ordering.{Ordering}
use Rattle.std.specs.Ordering.{nat_cmp, is_eq, is_lt, ordering_then}
use Rattle.std.specs.Cmp.Lexicographic.{slice_cmp}
use Rattle.ci_machine.specs.declared.records.Project.{Project}
use Rattle.ci_machine.specs.declared.records.Variable.{Variable}
use Rattle.ci_machine.specs.declared.records.Runner.{Runner}
use Rattle.ci_machine.specs.declared.records.Pipeline.{Pipeline}
use Rattle.ci_machine.specs.declared.records.Job.{Job}
use Rattle.ci_machine.specs.declared.records.JobVariable.{JobVariable}
use Rattle.ci_machine.specs.declared.records.Need.{Need}
use Rattle.ci_machine.specs.declared.records.Attempt.{Attempt}
use Rattle.ci_machine.specs.declared.records.Trace.{Trace}
use Rattle.ci_machine.specs.declared.records.GroupMode.{GroupMode}
use Rattle.ci_machine.specs.declared.records.Numbers.{Numbers}
use Rattle.ci_machine.specs.declared.change.Record.{Record}
use Rattle.ci_machine.specs.declared.change.Key.{Key}
use Rattle.ci_machine.specs.declared.change.Counter.{Counter}
use Rattle.ci_machine.specs.declared.change.RowChange.{RowChange}
use Rattle.ci_machine.specs.declared.change.RowChange.TheVariants.{Put, Append, Remove}

pub record State : Type 0 where
  pub projects : List Project
  pub variables : List Variable  -- by the project, then by the key
  pub runners : List Runner
  pub pipelines : List Pipeline
  pub jobs : List Job
  pub job_variables : List JobVariable  -- by the job, then by the key
  pub needs : List Need  -- by the job, then by the one that it waits for
  pub attempts : List Attempt
  pub traces : List Trace  -- by the attempt, of which each has one at most
  pub modes : List GroupMode  -- by the project, then by the resource group
  pub next : Numbers

abbrev pub first_numbers : Numbers
first_numbers = record { project = 1; runner = 1; pipeline = 1; job = 1; attempt = 1 }

-- nothing, and each next number is 1
abbrev pub empty : State
empty = record { projects = []; variables = []; runners = []; pipelines = []; jobs = []; job_variables = []; needs = []; attempts = []; traces = []; modes = []; next = first_numbers }

-- how records of a table are ordered: by their numbers, variables by their project or job and then by the bytes of the key, the
-- pairs of graphs by the job and then by the one that it waits for, traces by the attempt, modes by the project and then by the bytes of
-- the resource group
abbrev pub project_cmp : Project → Project → Ordering
project_cmp a b = nat_cmp a.id b.id

abbrev pub variable_cmp : Variable → Variable → Ordering
variable_cmp a b = ordering_then (nat_cmp a.project b.project) (slice_cmp nat_cmp a.key b.key)

abbrev pub runner_cmp : Runner → Runner → Ordering
runner_cmp a b = nat_cmp a.id b.id

abbrev pub pipeline_cmp : Pipeline → Pipeline → Ordering
pipeline_cmp a b = nat_cmp a.id b.id

abbrev pub job_cmp : Job → Job → Ordering
job_cmp a b = nat_cmp a.id b.id

abbrev pub job_variable_cmp : JobVariable → JobVariable → Ordering
job_variable_cmp a b = ordering_then (nat_cmp a.job b.job) (slice_cmp nat_cmp a.key b.key)

abbrev pub need_cmp : Need → Need → Ordering
need_cmp a b = ordering_then (nat_cmp a.job b.job) (nat_cmp a.pred b.pred)

abbrev pub attempt_cmp : Attempt → Attempt → Ordering
attempt_cmp a b = nat_cmp a.id b.id

abbrev pub trace_cmp : Trace → Trace → Ordering
trace_cmp a b = nat_cmp a.attempt b.attempt

abbrev pub mode_cmp : GroupMode → GroupMode → Ordering
mode_cmp a b = ordering_then (nat_cmp a.project b.project) (slice_cmp nat_cmp a.group b.group)

-- an ordered list with x at its place
abbrev pub placed : {A : Type 0} → (A → A → Ordering) → A → List A → List A
placed cmp x [] = x ∷ []
placed cmp x (y ∷ ys) = if is_lt (cmp y x) then y ∷ placed cmp x ys else x ∷ y ∷ ys

-- the list without the records whose key is x's
abbrev pub others : {A : Type 0} → (A → A → Ordering) → A → List A → List A
others cmp x xs = filter (λ y. not (is_eq (cmp y x))) xs

-- the list with x in place of the record that has its key, or at the place of a new one
abbrev pub put : {A : Type 0} → (A → A → Ordering) → A → List A → List A
put cmp x xs = placed cmp x (others cmp x xs)

-- the list without the records that have this number
abbrev pub without : {A : Type 0} → (A → ℕ) → ℕ → List A → List A
without id n xs = filter (λ y. not (is_eq (nat_cmp (id y) n))) xs

-- the list without the records that have one of these numbers
abbrev pub without_all : {A : Type 0} → (A → ℕ) → List ℕ → List A → List A
without_all id [] xs = xs
without_all id (n ∷ ns) xs = without_all id ns (without id n xs)

abbrev pub with_next : Counter → ℕ → Numbers → Numbers
with_next Counter.Project n next = record next { project = n }
with_next Counter.Runner n next = record next { runner = n }
with_next Counter.Pipeline n next = record next { pipeline = n }
with_next Counter.Job n next = record next { job = n }
with_next Counter.Attempt n next = record next { attempt = n }

abbrev pub with_record : Record → State → State
with_record (Record.Project p) s = record s { projects = put project_cmp p s.projects }
with_record (Record.Variable v) s = record s { variables = put variable_cmp v s.variables }
with_record (Record.Runner r) s = record s { runners = put runner_cmp r s.runners }
with_record (Record.Pipeline p) s = record s { pipelines = put pipeline_cmp p s.pipelines }
with_record (Record.Job j) s = record s { jobs = put job_cmp j s.jobs }
with_record (Record.JobVariable v) s = record s { job_variables = put job_variable_cmp v s.job_variables }
with_record (Record.Need n) s = record s { needs = put need_cmp n s.needs }
with_record (Record.Attempt a) s = record s { attempts = put attempt_cmp a s.attempts }
with_record (Record.Mode m) s = record s { modes = put mode_cmp m s.modes }
with_record (Record.Next c n) s = record s { next = with_next c n s.next }

abbrev pub without_record : Key → State → State
without_record (Key.Project n) s = record s { projects = without (λ p. p.id) n s.projects }
without_record (Key.Variable n name) s = record s { variables = filter (λ v. not (is_eq (ordering_then (nat_cmp v.project n) (slice_cmp nat_cmp v.key name)))) s.variables }
without_record (Key.Runner n) s = record s { runners = without (λ r. r.id) n s.runners }
without_record (Key.Pipeline n) s = record s { pipelines = without (λ p. p.id) n s.pipelines }
without_record (Key.Job n) s = record s { jobs = without (λ j. j.id) n s.jobs }
without_record (Key.JobVariable n name) s = record s { job_variables = filter (λ v. not (is_eq (ordering_then (nat_cmp v.job n) (slice_cmp nat_cmp v.key name)))) s.job_variables }
without_record (Key.JobVariables n) s = record s { job_variables = without (λ v. v.job) n s.job_variables }
without_record (Key.Need n pred) s = record s { needs = filter (λ w. not (is_eq (ordering_then (nat_cmp w.job n) (nat_cmp w.pred pred)))) s.needs }
without_record (Key.Needs n) s = record s { needs = without (λ w. w.job) n s.needs }
without_record (Key.Attempt n) s = record s { attempts = without (λ a. a.id) n s.attempts }
without_record (Key.Mode n name) s = record s { modes = filter (λ m. not (is_eq (ordering_then (nat_cmp m.project n) (slice_cmp nat_cmp m.group name)))) s.modes }
without_record (Key.Trace n) s = record s { traces = without (λ t. t.attempt) n s.traces }

abbrev pub bytes_or_none : Option Trace → List ℕ
bytes_or_none None = []
bytes_or_none (Some t) = t.bytes

-- the trace of the attempt n among these: no bytes, where it has none
abbrev pub trace_in : ℕ → List Trace → List ℕ
trace_in n traces = bytes_or_none (find (λ t. t.attempt == n) traces)

-- the traces, where these bytes stand behind those that their attempt's has
abbrev pub with_bytes : Trace → List Trace → List Trace
with_bytes t traces = put trace_cmp (record t { bytes = trace_in t.attempt traces ++ t.bytes }) traces

-- the state after one change
abbrev pub changed : RowChange → State → State
changed (Put r) s = with_record r s
changed (Append t) s = record s { traces = with_bytes t s.traces }
changed (Remove k) s = without_record k s

-- the state after changes, the first of them first
abbrev pub applied : List RowChange → State → State
applied [] s = s
applied (c ∷ cs) s = applied cs (changed c s)
