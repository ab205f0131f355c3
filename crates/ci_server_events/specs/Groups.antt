-- The resource groups of a project that are read, and those that hold them.
use Rattle.std.specs.Prelude.{ℕ, List, [], ◌∷◌, find, Option, option_map, option_and_then}
use Rattle.std.specs.declared.cmp.Ordering.{Ordering}
use Rattle.std.specs.Ordering.{nat_cmp}
use Rattle.serde_json.specs.Data.{Data}
use Rattle.ci_machine_steps.specs.Prelude.{Holder, GroupMode, holds, order_of, group_data, attempt_at, State, put}

-- rows stand by their attempts
abbrev pub by_attempt : Holder → Holder → Ordering
by_attempt a b = nat_cmp a.attempt b.attempt

-- the rows with these put in the places of their attempts, the first of them first
abbrev pub all_put : List Holder → List Holder → List Holder
all_put [] rows = rows
all_put (h ∷ hs) rows = all_put hs (put by_attempt h rows)

-- the job of the attempt that holds a group, if one does
abbrev pub job_holding : State → Option ℕ → Option ℕ
job_holding s attempt = option_map (λ a. a.job) (option_and_then (attempt_at s) attempt)

-- a group of a project, by these modes, and by these that hold groups
abbrev pub group_by : State → ℕ → List Holder → List GroupMode → List ℕ → Data
group_by s project held modes group = group_data group (order_of modes project group) (job_holding s (option_map (λ h. h.attempt) (find (holds project group) held)))
