-- Plans that leave all statuses, and so all that stands beside the records.
use Rattle.std.proofs.Common.{◌≡◌, ℕ, Bool, not, nat_lt, List, [], length, Option, Some, None, Result, Ok, Err, IfOk, IfErr, Contains, refl, sym, subst}
use Rattle.std.specs.List.{AllByRecursion}
use Rattle.std.specs.Str.{bytes_eq}
use Rattle.std.proofs.lemmas.Bool.{cond_both}
use Rattle.std.proofs.lemmas.Result.{IfOk-weaker}
use Rattle.ci_machine_steps.specs.Prelude.{is_name, MAX_NUMBER, is_variable_name, IndexChange, RowChange, Lease, PieceFault, Attempt, BoardRow, GroupOrder, Project, Runner}
use Rattle.ci_machine_steps.specs.Prelude.{Variable, Body, Code, M2, M5, M15, Detail, K, Reply, NewMode, NewRunner, NewVariable, Request, Seed, TracePart, SetsFile, set_file}
use Rattle.ci_machine_steps.specs.Prelude.{AreIndexes, Kept, cleared, put_rows, written, accepted, mode_change, set_mode, Plan, refused, faulted, add_project, made_project}
use Rattle.ci_machine_steps.specs.Prelude.{are_names, lacks_project, add_runner, made_runner, pause_runner, IsSound, State, applied, AreBoard, Does, append_trace, appended}
use Rattle.ci_machine_steps.specs.Prelude.{set_variable, variable_set, delete_variable, count_with}
use Rattle.ci_graph_layout.specs.Prelude.{Config, MAX_TAGS, MAX_VARIABLES}
use Rattle.ci_machine_steps.specs.Reads.{told}
use Rattle.ci_machine_plans.specs.Refusals.{unmade}
use Rattle.ci_machine_plans.specs.declared.replies.Refusal.{Refusal}
use Rattle.ci_server_lookups.specs.Prelude.{LeavesStatuses, StoreFault, IsKept, HoldsKept}
use Rattle.ci_store.specs.Prelude.{LoadsBy}
use Rattle.ci_server_lookups.proofs.Loading.{carries, if_kept}
use Rattle.ci_server_events.specs.declared.planned.Beside.{Beside}
use Rattle.ci_server_events.specs.declared.planned.Planned.{Planned}
use Rattle.ci_server_events.specs.Planning.{PlansFor, Settles}

abbrev pub Leaves : State → Plan → Type 0
Leaves s plan = AllByRecursion (LeavesStatuses s) plan.1

-- ---- projects and runners

pub project_leaves : (s : State) (n : ℕ) (name : List ℕ) (seed : Seed) → Leaves s (add_project n name seed)
project_leaves s n name seed =
    cond_both (not (is_name name)) (faulted (Detail.Code (K 16))) _ (Leaves s) (λ _. tt) (λ _. cond_both (nat_lt MAX_NUMBER n) (refused M15) (made_project n name seed) (Leaves s) (λ _. tt) (λ _. (tt, (tt, tt))))

pub runner_leaves : (s : State) (n : ℕ) (project : Option Project) (new : NewRunner) (seed : Seed) → Leaves s (add_runner n project new seed)
runner_leaves s n project new seed =
    cond_both (nat_lt MAX_TAGS (length new.tags)) (faulted (Detail.Code (K 11))) _ (Leaves s) (λ _. tt)
    (λ _. cond_both (not (are_names new)) (faulted (Detail.Code (K 16))) _ (Leaves s) (λ _. tt)
    (λ _. cond_both (lacks_project new.project project) (refused M2) _ (Leaves s) (λ _. tt)
    (λ _. cond_both (nat_lt MAX_NUMBER n) (refused M15) (made_runner n new seed) (Leaves s) (λ _. tt) (λ _. (tt, (tt, tt))))))

pub pause_leaves : (s : State) (found : Option Runner) (paused : Bool) → Leaves s (pause_runner found paused)
pause_leaves s None paused = tt
pause_leaves s (Some r) paused = (tt, tt)

-- ---- traces

appended_leaves : (s : State) (a : Attempt) (bytes : List ℕ) (now : ℕ) (r : Result ℕ PieceFault) → Contains s.attempts a → Leaves s (appended a bytes now r)
appended_leaves s a bytes now (Err fault) there = tt
appended_leaves s a bytes now (Ok size) there = (tt, ((a, there, refl, refl, refl), tt))

pub trace_leaves : (s : State) (o : Option Lease) (size : ℕ) (part : TracePart) (now : ℕ) → ((l : Lease) → o ≡ Some l → Contains s.attempts l.attempt) → Leaves s (append_trace o size part now)
trace_leaves s None size part now there = tt
trace_leaves s (Some l) size part now there =
    cond_both (bytes_eq l.attempt.token part.token) (appended l.attempt part.bytes now (accepted l.attempt l.limit now size part.from (length part.bytes))) (refused M5) (Leaves s)
    (λ _. appended_leaves s l.attempt part.bytes now _ (there l refl))
    (λ _. tt)

-- ---- files and variables of projects

pub file_leaves : (s : State) (r : Result Project Code) (text : List ℕ) (plan : Plan) → SetsFile r text plan → Leaves s plan
file_leaves s (Err code) text plan is = subst (Leaves s) (sym is) tt
file_leaves s (Ok project) text plan is = subst (Leaves s) (sym is.2) (by_reading is.0)
  where
    by_reading : (said : Result Config Detail) → Leaves s (set_file project text said)
    by_reading (Ok c) = (tt, tt)
    by_reading (Err fault) = tt

pub variable_leaves : (s : State) (r : Result Project Code) (vs : List Variable) (new : NewVariable) → Leaves s (set_variable r vs new)
variable_leaves s (Err code) vs new = tt
variable_leaves s (Ok project) vs new =
    cond_both (nat_lt MAX_VARIABLES (count_with new.key vs)) (faulted (Detail.Code (K 11))) _ (Leaves s) (λ _. tt)
    (λ _. cond_both (not (is_variable_name new.key)) (faulted (Detail.Code (K 12))) (variable_set project new) (Leaves s) (λ _. tt) (λ _. (tt, tt)))

pub deletion_leaves : (s : State) (r : Result Project Code) (found : Option Variable) → Leaves s (delete_variable r found)
deletion_leaves s (Err code) found = tt
deletion_leaves s (Ok project) None = tt
deletion_leaves s (Ok project) (Some v) = (tt, tt)

-- ---- process modes

pub mode_leaves : (s : State) (r : Result Project Code) (new : NewMode) → Leaves s (set_mode r new)
mode_leaves s (Err code) new = tt
mode_leaves s (Ok project) new = (by_order new.order, tt)
  where
    by_order : (order : Option GroupOrder) → LeavesStatuses s (mode_change project.id new.group order)
    by_order None = tt
    by_order (Some order) = tt

-- ---- what is planned so

abbrev pub RowsStay : Type 0
RowsStay = (s : State) (board : List BoardRow) (changes : List RowChange) → IsSound s → AreBoard s board → AllByRecursion (LeavesStatuses s) changes → AreBoard (applied changes s) board

abbrev pub IndexesStay : Type 0
IndexesStay = (k : Kept) (changes : List RowChange) → IsSound k.state → AreBoard k.state k.board → AreIndexes k → AllByRecursion (LeavesStatuses k.state) changes → AreIndexes (written changes [] [] k)

-- nothing is put beside such changes
pub alone_settles : RowsStay → IndexesStay → (k : Kept) → IsKept k → (changes : List RowChange) (beside : Beside) → beside.rows.items ≡ [] → beside.indexes.items ≡ [] → AllByRecursion (LeavesStatuses k.state) changes
    → Settles k changes beside
alone_settles rows_stay indexes_stay k is changes beside no_rows no_indexes leaves = record {
  board = subst (λ (rs : List BoardRow). AreBoard (applied changes k.state) (put_rows rs k.board)) (sym no_rows) (rows_stay k.state k.board changes is.sound is.are_board leaves);
  indexes = subst (λ (rs : List BoardRow). AreIndexes (written changes rs beside.indexes.items k)) (sym no_rows)
      (subst (λ (cs : List IndexChange). AreIndexes (written changes [] cs k)) (sym no_indexes) (indexes_stay k changes is.sound is.are_board is.are_indexes leaves));
}

pub refusals_change_nothing : (r : Refusal) → (unmade r).1 ≡ []
refusals_change_nothing (Refusal.Code code) = refl
refusals_change_nothing (Refusal.Fault code) = refl

-- whatever is read
pub reads_change_nothing : (r : Result Body Code) → (told r).1 ≡ []
reads_change_nothing (Ok body) = refl
reads_change_nothing (Err code) = refl

-- a plan that is this one
pub leaves_so : (s : State) (plan is : Plan) → plan ≡ is → Leaves s is → Leaves s plan
leaves_so s plan is same leaves = subst (Leaves s) (sym same) leaves

-- ---- what is planned

-- a plan with what settles its changes, where no row goes first
pub plans_with : {A : Type 0} (k : Kept) (Makes : A × List RowChange → Type 0) (plan : A × List RowChange) (p : Planned A) → (p.answer, p.changes) ≡ plan → p.cleared.items ≡ [] → Makes plan → Settles k plan.1 p.beside
    → PlansFor k (Makes (p.answer, p.changes)) p
plans_with {A = A} k Makes plan p same none makes settles = record {
  made = subst Makes (sym same) makes;
  settled = subst (λ (jobs : List ℕ). Settles (cleared jobs k) p.changes p.beside) (sym none)
      (subst (λ (q : A × List RowChange). Settles k q.1 p.beside) (sym same) settles);
}

-- the plan with what was found beside it
abbrev pub IsPlanned : {A : Type 0} → A × List RowChange → Beside → Planned A → Type 0
IsPlanned plan b p = ((p.answer, p.changes) ≡ plan) × (p.cleared.items ≡ []) × (◌≡◌ {A = Result Beside StoreFault} (Ok b) (Ok p.beside))

pub plans_so : {A : Type 0} (k : Kept) (Makes : A × List RowChange → Type 0) {plan : A × List RowChange} {b : Beside} {p : Planned A} → IsPlanned plan b p
    → Makes plan → Settles k plan.1 b → PlansFor k (Makes (p.answer, p.changes)) p
plans_so k Makes {plan = plan} {b = b} {p = p} made makes settles =
    let same : b ≡ p.beside = cc (made.2) in
    plans_with k Makes plan p made.0 made.1 makes (subst (Settles k plan.1) same settles)

-- what was looked up beside a plan is so of what is beside it
pub with_beside : {T A : Type 0} {honest : T → Type 0} {holds : T → Kept → Type 0} {leaves : T → Kept → Kept → Type 0} {Q : Kept → Beside → Type 0} {a b : T} {beside : Result Beside StoreFault} {r : Result (Planned A) StoreFault}
    (plan : A × List RowChange) → LoadsBy honest holds leaves a b beside Q → IfOk r (λ p. ((p.answer, p.changes) ≡ plan) × (p.cleared.items ≡ []) × (beside ≡ Ok p.beside)) → IfErr r (λ fault. beside ≡ Err fault) → LoadsBy honest holds leaves a b r (λ k p. Q k p.beside)
with_beside {honest = honest} {holds = holds} {leaves = leaves} {a = a} {b = b} {beside = beside} {r = r} plan load planned fault =
    carries honest holds leaves (λ p. p.beside) a b beside r load (IfOk-weaker r _ _ (λ p w. w.2) planned) fault

-- what is planned for a request is planned for this one, which is that
pub asked_so : {T : Type 0} {honest : T → Type 0} {holds : T → Kept → Type 0} {leaves : T → Kept → Kept → Type 0} {a b : T} {r : Result (Planned Reply) StoreFault} {request asked : Request} (now : ℕ) (seed : Seed) → request ≡ asked
    → LoadsBy honest holds leaves a b r (λ k p. IsKept k → PlansFor k (Does k.state k.board asked now seed (p.answer, p.changes)) p)
    → LoadsBy honest (HoldsKept holds) leaves a b r (λ k p. IsKept k → PlansFor k (Does k.state k.board request now seed (p.answer, p.changes)) p)
asked_so {honest = honest} {holds = holds} {leaves = leaves} {a = a} {b = b} {r = r} now seed is load =
    if_kept (subst (λ (q : Request). LoadsBy honest holds leaves a b r (λ k p. IsKept k → PlansFor k (Does k.state k.board q now seed (p.answer, p.changes)) p)) (sym is) load)
