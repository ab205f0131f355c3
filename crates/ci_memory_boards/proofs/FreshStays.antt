-- From which numbers on pipelines and jobs are new, after a change; and what is kept of a new one.
use Rattle.std.proofs.Common.{◌≡◌, ◌≤◌, ◌<◌, ◌==◌, ℕ, true, false, not, List, [], ◌∷◌, All, Option, None, IfSome, nat_cmp, is_eq, sym, subst, ◌∙◌, ⊎_elim}
use Rattle.std.proofs.Common.{eqb-true, arith}
use Rattle.std.specs.Ordering.{ordering_then}
use Rattle.std.proofs.lemmas.Bool.{cases_Bool}
use Rattle.std.proofs.lemmas.Bool.Decides.{nat_tests}
use Rattle.std.proofs.lemmas.List.Elements.{All-filter, All-weaker}
use Rattle.ci_machine.specs.Prelude.{JobGraph}
use Rattle.ci_machine_steps.specs.Prelude.{Key, Record, RowChange, Put, Remove, Attempt, BoardRow, Job, Need, Kept, row_cmp, cleared, is_within, State, job_cmp, need_cmp}
use Rattle.ci_machine_steps.specs.Prelude.{attempt_cmp, put, without, without_all, changed}
use Rattle.ci_machine.proofs.Keyed.{has_from_all, All-from_has, filter_none}
use Rattle.ci_server_lookups.specs.Prelude.{IsGraphOf, IsRight}
use Rattle.ci_memory_boards.specs.Fresh.{IsFresh, IsNoLess, IsBefore}
use Rattle.ci_memory_boards.specs.declared.fresh.Fresh.{Fresh}
use Rattle.ci_server_lookups.specs.declared.sheet.Sheet.{Sheet}
use Rattle.ci_memory_boards.proofs.Lists.{all_put}

-- greater numbers are new too
raised : (f g : Fresh) (s : Kept) → IsNoLess f g → IsFresh f s → IsFresh g s
raised f g s more is = record {
  jobs = All-weaker (λ (j : Job). j.pipeline < f.pipeline) (λ j. j.pipeline < g.pipeline) (λ j l. omega (arith, more.0, l)) s.state.jobs is.jobs;
  needs = All-weaker (λ (w : Need). w.job < f.job) (λ w. w.job < g.job) (λ w l. omega (arith, more.1, l)) s.state.needs is.needs;
  attempts = All-weaker (λ (a : Attempt). a.job < f.job) (λ a. a.job < g.job) (λ a l. omega (arith, more.1, l)) s.state.attempts is.attempts;
  rows = All-weaker (λ (r : BoardRow). r.job < f.job) (λ r. r.job < g.job) (λ r l. omega (arith, more.1, l)) s.board is.rows;
}

-- a change that puts nothing from the numbers on
changed_under : (g : Fresh) (c : RowChange) (s : Kept) → IsBefore c g → IsFresh g s → IsFresh g (record s { state = changed c s.state })
changed_under g (Put (Record.Job x)) s before is = record { jobs = all_put (λ j. j.pipeline < g.pipeline) job_cmp x s.state.jobs is.jobs before; needs = is.needs; attempts = is.attempts; rows = is.rows }
changed_under g (Put (Record.Need x)) s before is = record { jobs = is.jobs; needs = all_put (λ w. w.job < g.job) need_cmp x s.state.needs is.needs before; attempts = is.attempts; rows = is.rows }
changed_under g (Put (Record.Attempt x)) s before is = record { jobs = is.jobs; needs = is.needs; attempts = all_put (λ a. a.job < g.job) attempt_cmp x s.state.attempts is.attempts before; rows = is.rows }
changed_under g (Remove (Key.Job n)) s before is = record { jobs = All-filter (λ j. not (is_eq (nat_cmp j.id n))) (λ j. j.pipeline < g.pipeline) s.state.jobs is.jobs; needs = is.needs; attempts = is.attempts; rows = is.rows }
changed_under g (Remove (Key.Need n p)) s before is = record { jobs = is.jobs; needs = All-filter (λ w. not (is_eq (ordering_then (nat_cmp w.job n) (nat_cmp w.pred p)))) (λ w. w.job < g.job) s.state.needs is.needs; attempts = is.attempts; rows = is.rows }
changed_under g (Remove (Key.Needs n)) s before is = record { jobs = is.jobs; needs = All-filter (λ w. not (is_eq (nat_cmp w.job n))) (λ w. w.job < g.job) s.state.needs is.needs; attempts = is.attempts; rows = is.rows }
changed_under g (Remove (Key.Attempt n)) s before is = record { jobs = is.jobs; needs = is.needs; attempts = All-filter (λ a. not (is_eq (nat_cmp a.id n))) (λ a. a.job < g.job) s.state.attempts is.attempts; rows = is.rows }
changed_under g _ s before is = record { jobs = is.jobs; needs = is.needs; attempts = is.attempts; rows = is.rows }

pub fresh_changed : (f g : Fresh) (c : RowChange) (s : Kept) → IsNoLess f g → IsBefore c g → IsFresh f s → IsFresh g (record s { state = changed c s.state })
fresh_changed f g c s more before is = changed_under g c s before (raised f g s more is)

-- a row that is put
pub fresh_row : (f g : Fresh) (r : BoardRow) (s : Kept) → IsNoLess f g → r.job < g.job → IsFresh f s → IsFresh g (record s { board = put row_cmp r s.board })
fresh_row f g r s more before is =
    let all = raised f g s more is in
    record { jobs = all.jobs; needs = all.needs; attempts = all.attempts; rows = all_put (λ x. x.job < g.job) row_cmp r s.board all.rows before }

rows_left : (P : BoardRow → Type 0) (gone : List ℕ) (board : List BoardRow) → All P board → All P (without_all (λ r. r.job) gone board)
rows_left P [] board all = all
rows_left P (n ∷ gone) board all = rows_left P gone (without (λ r. r.job) n board) (All-filter (λ r. not (is_eq (nat_cmp r.job n))) P board all)

-- rows that go
pub fresh_cleared : (f : Fresh) (gone : List ℕ) (k : Kept) → IsFresh f k → IsFresh f (cleared gone k)
fresh_cleared f gone k is = record { jobs = is.jobs; needs = is.needs; attempts = is.attempts; rows = rows_left (λ r. r.job < f.job) gone k.board is.rows }

-- being so is of the state and of the rows alone
pub fresh_same : (f : Fresh) (k l : Kept) → l.state ≡ k.state → l.board ≡ k.board → IsFresh f k → IsFresh f l
fresh_same f k l s b is = record {
  jobs = subst (λ (t : State). All (λ j. j.pipeline < f.pipeline) t.jobs) (sym s) is.jobs;
  needs = subst (λ (t : State). All (λ w. w.job < f.job) t.needs) (sym s) is.needs;
  attempts = subst (λ (t : State). All (λ a. a.job < f.job) t.attempts) (sym s) is.attempts;
  rows = subst (λ (t : List BoardRow). All (λ r. r.job < f.job) t) (sym b) is.rows;
}

-- a number from another on isn't one that is less
outside : (first last low n : ℕ) → low ≤ first → n < low → is_within first last n ≡ false
outside first last low n h l = grind (arith, nat_tests)

-- an empty sheet of a new pipeline is right
pub blank_is_right : (f : Fresh) (m : Sheet) (k : Kept) → f.pipeline ≤ m.pipeline → f.job ≤ m.first
    → m.jobs.items ≡ [] → m.needs.items ≡ [] → m.attempts.items ≡ [] → m.rows.items ≡ [] → m.graph ≡ None → IsFresh f k → IsRight m k
blank_is_right f m k new from jobs needs attempts rows graph is = record {
  jobs = jobs ∙ sym (filter_none (λ j. j.pipeline == m.pipeline) k.state.jobs (λ j h. ⊎_elim (λ e. let low = has_from_all (λ (x : Job). x.pipeline < f.pipeline) j k.state.jobs is.jobs h in let same = eqb-true j.pipeline m.pipeline e in absurd (omega (arith, low, same, new))) (λ e. e) (cases_Bool (j.pipeline == m.pipeline))));
  inside = subst (All (λ j. is_within m.first m.last j.id ≡ true)) (sym jobs) (All-from_has (λ (j : Job). is_within m.first m.last j.id ≡ true) [] (λ j h. absurd h));
  needs = needs ∙ sym (filter_none (λ w. is_within m.first m.last w.job) k.state.needs (λ w h. outside m.first m.last f.job w.job from (has_from_all (λ (x : Need). x.job < f.job) w k.state.needs is.needs h)));
  attempts = attempts ∙ sym (filter_none (λ a. is_within m.first m.last a.job) k.state.attempts (λ a h. outside m.first m.last f.job a.job from (has_from_all (λ (x : Attempt). x.job < f.job) a k.state.attempts is.attempts h)));
  rows = rows ∙ sym (filter_none (λ r. is_within m.first m.last r.job) k.board (λ r h. outside m.first m.last f.job r.job from (has_from_all (λ (x : BoardRow). x.job < f.job) r k.board is.rows h)));
  graph = subst (λ (o : Option JobGraph). IfSome o (λ g. IsGraphOf g m.jobs.items m.needs.items)) (sym graph) tt;
}
