-- The newest pipelines that are remembered are those of a state.
use Rattle.std.specs.Prelude.{◌≡◌, ◌==◌, ◌||◌, Bool, false, All, take, IfSome}
use Rattle.std.specs.List.{list_any}
use Rattle.ci_machine_steps.specs.Prelude.{Key, Record, RowChange, Put, Remove, State, newest_of}
use Rattle.ci_memory.specs.declared.newest.Newest.{Newest}
use Rattle.ci_memory.specs.declared.newest.NewestList.{NewestList}

-- it has the newest pipelines of its project
abbrev pub IsList : State → NewestList → Type 0
IsList s l = l.pipelines.items ≡ take l.count (newest_of s l.project)

-- so has each that is remembered
abbrev pub AreNewest : Newest → State → Type 0
AreNewest m s = IfSome m.known (λ lists. All (IsList s) lists.items)

-- the change puts a pipeline of its project, or puts or removes one that it has
abbrev pub is_of_list : NewestList → RowChange → Bool
is_of_list l (Put (Record.Pipeline q)) = q.project == l.project || list_any (λ p. p.id == q.id) l.pipelines.items
is_of_list l (Remove (Key.Pipeline n)) = list_any (λ p. p.id == n) l.pipelines.items
is_of_list l _ = false
