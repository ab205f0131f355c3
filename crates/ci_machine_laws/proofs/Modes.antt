-- A request that sets the process mode of a resource group changes that of no other group, and nothing else; and no other event changes one.
use Rattle.ci_machine_laws.proofs.Prelude.{cases_eq, false_from_ne_true, ne_eqb, not_true, rules, ◌≡◌, ℕ, true, false, ◌==◌, ◌&&◌, not, List, [], ◌∷◌, filter, find}
use Rattle.ci_machine_laws.proofs.Prelude.{Option, Some, None, option_map, Result, Ok, Err, Ordering, Equal, nat_cmp, is_eq, refl, sym, ap, subst, ◌∙◌, ⊎_elim}
use Rattle.ci_machine_laws.proofs.Prelude.{eqb-true, eq-eqb, bytes_eq, slice_cmp, cases_Bool, both_ways, and_parts, bytes_eq-Decides, Has}
use Rattle.ci_machine_laws.proofs.Prelude.{has_filter, same, equal, find_implied, ordering_then, is_eq-slice_cmp}
use Rattle.ci_machine_steps.specs.Prelude.{BoardRow, Project, GroupMode, GroupOrder, NewMode, SetMode, Event, Seed, Answer, Code, State, placed, mode_cmp, applied, is_mode_of}
use Rattle.ci_machine_steps.specs.Prelude.{Plan, mode_change, set_mode, Step, IsReached, IsRefusal}
use Rattle.ci_machine.proofs.Found.{find_none, find_placed, find_placed_one}
use Rattle.ci_machine_laws.specs.Modes.{SetsMode}
use Rattle.ci_machine_laws.proofs.EachPlan.{Asked, of_asked, is_asked}
use Rattle.ci_machine_laws.proofs.EachNext.{EachNext, IsAside, modes_are, next_is}
use Rattle.ci_machine_laws.proofs.Reached.{reached}

-- ---- keys

then_equal : (o r : Ordering) → is_eq (ordering_then o r) ≡ (is_eq o && is_eq r)
then_equal Equal r = refl
then_equal o r = refl

compared : (a b : ℕ) → is_eq (nat_cmp a b) ≡ (a == b)
compared a b =
    ⊎_elim
    (λ e. equal a b e ∙ sym (eq-eqb a b e))
    (λ d. false_from_ne_true (is_eq (nat_cmp a b)) (λ t. d (same a b t)) ∙ sym (ne_eqb a b d))
    (cases_eq a b)

-- a mode has this key where it is that of this group of the project
has_key : (project : ℕ) (group : List ℕ) (m : GroupMode) → is_eq (ordering_then (nat_cmp m.project project) (slice_cmp nat_cmp m.group group)) ≡ is_mode_of project group m
has_key project group m =
    then_equal (nat_cmp m.project project) (slice_cmp nat_cmp m.group group) ∙ (λ i. compared m.project project i && is_eq-slice_cmp m.group group i)

-- ---- the modes of a state

-- those of other groups
abbrev left : ℕ → List ℕ → List GroupMode → List GroupMode
left project group modes = filter (λ m. not (is_eq (ordering_then (nat_cmp m.project project) (slice_cmp nat_cmp m.group group)))) modes

not_left : (project : ℕ) (group : List ℕ) (modes : List GroupMode) (m : GroupMode) → Has m (left project group modes) → is_mode_of project group m ≡ false
not_left project group modes m k =
    let of = has_filter (λ (w : GroupMode). not (is_eq (ordering_then (nat_cmp w.project project) (slice_cmp nat_cmp w.group group)))) m modes k in
    not_true (is_mode_of project group m) (sym (ap not (has_key project group m)) ∙ of.1)

-- a mode of one group isn't that of another
not_of : (project other : ℕ) (group name : List ℕ) → ((other ≡ project) × (name ≡ group) → ⊥) → (m : GroupMode) → is_mode_of other name m ≡ true → is_mode_of project group m ≡ false
not_of project other group name apart m is =
    ⊎_elim
    (λ t.
    let of = and_parts (m.project == other) (bytes_eq m.group name) is in
    let by = and_parts (m.project == project) (bytes_eq m.group group) t in
    absurd (apart (sym (eqb-true m.project other of.0) ∙ eqb-true m.project project by.0, sym ((bytes_eq-Decides m.group name).0 of.1) ∙ (bytes_eq-Decides m.group group).0 by.1)))
    (λ f. f)
    (cases_Bool (is_mode_of project group m))

others_left : (project other : ℕ) (group name : List ℕ) → ((other ≡ project) × (name ≡ group) → ⊥) → (modes : List GroupMode) → find (is_mode_of other name) (left project group modes) ≡ find (is_mode_of other name) modes
others_left project other group name apart modes =
    find_implied (is_mode_of other name) (λ (m : GroupMode). not (is_eq (ordering_then (nat_cmp m.project project) (slice_cmp nat_cmp m.group group)))) modes
    (λ m k is. ap not (has_key project group m ∙ not_of project other group name apart m is))

-- it is that of its own group
own : (m : GroupMode) → is_mode_of m.project m.group m ≡ true
own m = (λ i. eq-eqb m.project m.project refl i && (bytes_eq-Decides m.group m.group).1 refl i)

-- ---- the request that sets it

sets : (s : State) (new : NewMode) (project : ℕ) → project ≡ new.project → (order : Option GroupOrder) → order ≡ new.order → SetsMode s (applied (mode_change project new.group order ∷ []) s) new
sets s new project is None e = record {
  rest = refl;
  its = ap (λ o. option_map (λ (m : GroupMode). m.order) o) (ap (λ n. find (is_mode_of n new.group) (left project new.group s.modes)) (sym is) ∙ find_none (is_mode_of project new.group) (left project new.group s.modes) (not_left project new.group s.modes)) ∙ e;
  others = λ other name apart. ap (λ o. option_map (λ (m : GroupMode). m.order) o) (others_left project other new.group name (λ both. apart (both.0 ∙ is, both.1)) s.modes);
}
sets s new project is (Some order) e =
    let m : GroupMode = record { project = project; group = new.group; order = order } in
    let rest = left project new.group s.modes in
    record {
      rest = refl;
      its = ap (λ o. option_map (λ (w : GroupMode). w.order) o)
          (ap (λ n. find (is_mode_of n new.group) (placed mode_cmp m rest)) (sym is) ∙ find_placed_one mode_cmp (is_mode_of project new.group) m rest (own m) (not_left project new.group s.modes)) ∙ e;
      others = λ other name apart. let apart_from : (other ≡ project) × (name ≡ new.group) → ⊥ = λ both. apart (both.0 ∙ is, both.1) in
          ap (λ o. option_map (λ (w : GroupMode). w.order) o)
          (find_placed mode_cmp (is_mode_of other name) m rest (⊎_elim (λ t. absurd (both_ways (is_mode_of project new.group m) (not_of project other new.group name apart_from m t) (own m))) (λ f. f) (cases_Bool (is_mode_of other name m)))
          ∙ others_left project other new.group name apart_from s.modes);
    }

by_plan : (s : State) (new : NewMode) (r : Result Project Code) → Asked s new.project r → (IsRefusal (Answer.Reply (set_mode r new).0) → ⊥) → SetsMode s (applied (set_mode r new).1 s) new
by_plan s new (Err code) asked fine = absurd (fine refl)
by_plan s new (Ok project) asked fine = sets s new project.id asked.1 new.order refl

pub sets_mode : (s t : State) (new : NewMode) (now : ℕ) (seed : Seed) (a : Answer) → Step s (Event.Request (SetMode new)) now seed a t → (IsRefusal a → ⊥) → SetsMode s t new
sets_mode s t new now seed (Answer.Reply reply) step fine =
    let P : Plan → Type 0 = λ plan. (IsRefusal (Answer.Reply plan.0) → ⊥) → SetsMode s (applied plan.1 s) new in
    let is : P (reply, step.changes) = subst P (sym step.happens) (by_plan s new (of_asked s new.token new.project) (is_asked s new.token new.project)) in
    subst (λ (w : State). SetsMode s w new) (sym step.state) (is fine)
sets_mode s t new now seed (Answer.Swept swept) step fine = absurd step.happens

-- ---- each other event

keeps : (s : State) (board : List BoardRow) (e : Event) → ((new : NewMode) → e ≡ Event.Request (SetMode new) → ⊥) → EachNext s board e (λ _ t. t.modes ≡ s.modes)
keeps s board e other = search (rules, beside)
  where
    beside : (t : State) → IsAside s e t → t.modes ≡ s.modes
    beside _ (modes_are new is ms) = absurd (other new is)
    beside _ by = refl

pub modes_stay : (s t : State) (e : Event) (now : ℕ) (seed : Seed) (a : Answer) → IsReached s → ((new : NewMode) → e ≡ Event.Request (SetMode new) → ⊥) → Step s e now seed a t → t.modes ≡ s.modes
modes_stay s t e now seed a reaches other step =
    let grants = (reached reaches.0 s reaches.1).grants in
    ap (λ (w : State). w.modes) step.state ∙ next_is s step.before grants.jobs_rise grants.rise (λ _ w. w.modes ≡ s.modes) e now seed a step.changes (keeps s step.before e other) step.happens
