-- Which of the pipelines that are remembered makes room for another one.
use Rattle.std.specs.Prelude.{ℕ, nat_lt, ◌||◌, if◌then◌else◌, Bool, true, false, List, length}
use Rattle.std.specs.List.{list_any, prefix_len, remove}
use Rattle.ci_machine_steps.specs.Prelude.{Status, Pending, Running}
use Rattle.ci_server_lookups.specs.declared.sheet.Sheet.{Sheet}

-- the status of a job that a runner has or may take
abbrev pub is_active : Status → Bool
is_active Pending = true
is_active Running = true
is_active _ = false

-- a job of the pipeline is pending or running
abbrev pub is_under_way : Sheet → Bool
is_under_way m = list_any (λ r. is_active r.row.status) m.rows.items

-- 32 aren't remembered yet, or there is one that isn't under way
abbrev pub has_room : List Sheet → Bool
has_room sheets = nat_lt (length sheets) 32 || nat_lt (prefix_len is_under_way sheets) (length sheets)

-- the place of the first that isn't under way; where all are, of the first of all
abbrev pub place_to_go : List Sheet → ℕ
place_to_go sheets = if nat_lt (prefix_len is_under_way sheets) (length sheets) then prefix_len is_under_way sheets else 0

-- those that stay where there is to be room for one more
abbrev pub with_room : List Sheet → List Sheet
with_room sheets = if nat_lt (length sheets) 32 then sheets else remove sheets (place_to_go sheets)
