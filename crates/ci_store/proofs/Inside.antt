-- What a query inside a transaction leaves of the last commit.
use Rattle.std.proofs.Common.{◌≡◌, ◌⊎◌, inl, inr, ℕ, List, Bool, true, false, cond, Option, Some, None, IsTrue, refl, sym, subst, ◌∙◌}
use Rattle.ci_store.specs.Prelude.{Row, Error, Returning, Compiled, Database, ShowsRows, Shown, IsUnchanged, IsRolledBack, KeepsCommit, FailsToQuery, FailsToShow, IsNotRun}
use Rattle.ci_store.specs.Prelude.{IsTooLate}
use Rattle.sqlite.specs.Clock.{timed}
use Rattle.sqlite.specs.State.{State}

unchanged_keeps : (old new : State) → IsUnchanged old new → KeepsCommit old new
unchanged_keeps old new same = record { was_open = λ _. same.0.was_open; committed = λ _. same.0.committed_is }

undone_keeps : (old new : State) → IsRolledBack old new → KeepsCommit old new
undone_keeps old new back = record { was_open = back.was_open; committed = λ is_open. (back.undone is_open).1 }

in_it : (b : Bool) (x y : Database) → IsTrue b → cond b x y ≡ x
in_it true x y inside = refl
in_it false x y inside = cc

rows_keep : (old new : State) (sql : List ℕ) (c : Compiled) (params : Row) (rows : List Row) (what : Option Returning) → IsTrue old.in_transaction → ShowsRows old new sql c params rows what
    → KeepsCommit old new × IsTrue new.in_transaction
rows_keep old new sql c params rows None inside h = (unchanged_keeps old new h.3, subst IsTrue (sym h.3.0.mode) inside)
rows_keep old new sql c params rows (Some what) inside h =
    (record { was_open = λ _. h.1.shown.was_open; committed = λ _. h.1.shown.committed_is ∙ in_it old.in_transaction old.committed new.now inside }, subst IsTrue (sym h.1.shown.mode) inside)

pub shown_keeps : (sql : List ℕ) (params : Row) (old new : State) (rows : List Row) → IsTrue old.in_transaction → Shown sql params old new rows → KeepsCommit old new × IsTrue new.in_transaction
unfolding Shown
shown_keeps sql params old new rows inside h = rows_keep old new sql h.0 (timed params h.0.formats h.1.now) rows h.0.returning inside h.2

not_run_keeps : (old new : State) (sql : List ℕ) (params : Row) (e : Error) → IsNotRun old new sql params e → KeepsCommit old new
unfolding IsNotRun
not_run_keeps old new sql params e (inl same) = unchanged_keeps old new same.1
not_run_keeps old new sql params e (inr fails) = undone_keeps old new fails.3

to_show_keeps : (old new : State) (sql : List ℕ) (c : Compiled) (params : Row) (e : Error) (what : Option Returning) → FailsToShow old new sql c params e what → KeepsCommit old new
to_show_keeps old new sql c params e None h = unchanged_keeps old new h.3
to_show_keeps old new sql c params e (Some what) (inl refused) = unchanged_keeps old new refused.1
to_show_keeps old new sql c params e (Some what) (inr fails) = undone_keeps old new fails.3

pub fails_keeps : (sql : List ℕ) (params : Row) (old new : State) (e : Error) → FailsToQuery sql params old new e ⊎ IsTooLate sql params old new e → KeepsCommit old new
unfolding FailsToQuery
fails_keeps sql params old new e (inl (inl none)) = not_run_keeps old new sql params e none
fails_keeps sql params old new e (inl (inr ran)) = to_show_keeps old new sql ran.0 (timed params ran.0.formats ran.1.now) e ran.0.returning ran.2
fails_keeps sql params old new e (inr late) = unchanged_keeps old new late.5
