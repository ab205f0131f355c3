-- What a store keeps: the state, and beside it the rows of its jobs' statuses, the resource groups that are held, and the pipelines that
-- aren't finished. All but the state follows from it. The rows and the groups are there to be looked up; no table has the pipelines that
-- aren't finished: each change says which of them come and go, for who remembers them.
use Rattle.std.specs.Prelude.{ℕ, not, ◌==◌, List, [], ◌∷◌, filter}
use Rattle.std.specs.declared.cmp.Ordering.{Ordering}
use Rattle.std.specs.Ordering.{nat_cmp}
use Rattle.ci_machine.specs.declared.records.BoardRow.{BoardRow}
use Rattle.ci_machine.specs.declared.records.Holder.{Holder}
use Rattle.ci_machine.specs.declared.records.Unfinished.{Unfinished}
use Rattle.ci_machine.specs.declared.change.RowChange.{RowChange}
use Rattle.ci_machine.specs.declared.change.IndexChange.{IndexChange}
use Rattle.ci_machine.specs.declared.change.IndexChange.TheVariants.{Hold, Free, Open, Close}
use Rattle.ci_machine.specs.State.{State, empty, put, without_all, applied}
use Rattle.ci_machine.specs.Holders.{with_holder, without_holder}

pub record Kept : Type 0 where
  pub state : State
  pub board : List BoardRow  -- by the job
  pub holders : List Holder  -- by the project, then by the group
  pub unfinished : List Unfinished  -- by the pipeline

-- nothing, and so no rows
abbrev pub nothing_kept : Kept
nothing_kept = record { state = empty; board = []; holders = []; unfinished = [] }

abbrev pub row_cmp : BoardRow → BoardRow → Ordering
row_cmp a b = nat_cmp a.job b.job

-- the rows with these put in the places of their jobs, the first of them first
abbrev pub put_rows : List BoardRow → List BoardRow → List BoardRow
put_rows [] board = board
put_rows (r ∷ rs) board = put_rows rs (put row_cmp r board)

abbrev pub unfinished_cmp : Unfinished → Unfinished → Ordering
unfinished_cmp a b = nat_cmp a.pipeline b.pipeline

-- the pipelines that aren't finished, with this one, or without it
abbrev pub with_open : Unfinished → List Unfinished → List Unfinished
with_open u unfinished = put unfinished_cmp u unfinished

abbrev pub without_open : ℕ → List Unfinished → List Unfinished
without_open pipeline unfinished = filter (λ u. not (u.pipeline == pipeline)) unfinished

-- what is kept after one change of what is beside the state
abbrev pub indexed : IndexChange → Kept → Kept
indexed (Hold h) k = record k { holders = with_holder h k.holders }
indexed (Free project group) k = record k { holders = without_holder project group k.holders }
indexed (Open u) k = record k { unfinished = with_open u k.unfinished }
indexed (Close pipeline) k = record k { unfinished = without_open pipeline k.unfinished }

-- after changes, the first of them first
abbrev pub indexed_all : List IndexChange → Kept → Kept
indexed_all [] k = k
indexed_all (c ∷ cs) k = indexed_all cs (indexed c k)

-- what is kept without the rows of these jobs
abbrev pub cleared : List ℕ → Kept → Kept
cleared jobs k = record k { board = without_all (λ r. r.job) jobs k.board }

-- what is kept after changes of records, puts of rows, and changes of what else is beside the state
abbrev pub written : List RowChange → List BoardRow → List IndexChange → Kept → Kept
written changes rows indexes k = indexed_all indexes (record k { state = applied changes k.state; board = put_rows rows k.board })
