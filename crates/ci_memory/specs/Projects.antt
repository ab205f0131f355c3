-- The projects that are remembered are those of a state.
use Rattle.std.specs.Prelude.{◌≡◌, ◌==◌, ◌||◌, Bool, false, All, Some, IfSome}
use Rattle.std.specs.Str.{bytes_eq}
use Rattle.ci_machine_steps.specs.Prelude.{Key, Record, RowChange, Put, Remove, Project, project_with, State}
use Rattle.ci_memory.specs.declared.projects.Projects.{Projects}

-- it is what its token finds
abbrev pub IsFound : State → Project → Type 0
IsFound s p = project_with s p.token ≡ Some p

-- so is each that is remembered
abbrev pub AreProjects : Projects → State → Type 0
AreProjects m s = IfSome m.known (λ projects. All (IsFound s) projects.items)

-- the change is of this project, or puts one with its token
abbrev pub is_of_project : Project → RowChange → Bool
is_of_project p (Put (Record.Project q)) = q.id == p.id || bytes_eq q.token p.token
is_of_project p (Remove (Key.Project n)) = n == p.id
is_of_project p _ = false
