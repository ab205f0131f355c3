-- The variables of a job, by their keys, in every state that a history leads to; and those of a grant.
use Rattle.std.proofs.Common.{◌≡◌, ℕ, Bool, true, false, ◌==◌, ◌||◌, not, nat_lt, codes, List, [], ◌∷◌, length, map, filter, insert, count_by, Option, Some, None, nat_cmp, is_eq}
use Rattle.std.proofs.Common.{is_lt, Ordering, Less, Equal, Greater, refl, sym, ap, subst, ◌∙◌, inl, inr, ⊎_elim, eqb-true}
use Rattle.std.specs.List.{list_any, AllByRecursion}
use Rattle.std.specs.Str.{bytes_eq}
use Rattle.std.specs.Ordering.{ordering_then, ordering_reverse}
use Rattle.std.specs.Cmp.Lexicographic.{slice_cmp}
use Rattle.std.specs.Cmp.{IsTotalOrder, Equal-is}
use Rattle.std.proofs.lemmas.Cmp.{nat_cmp_total, on_total, then_total, nat_list_cmp_total}
use Rattle.std.specs.List.Sorted.{IsStrictlySortedBy}
use Rattle.std.proofs.lemmas.Bool.{cond_both, both_ways, cases_Bool, false≢true}
use Rattle.std.proofs.lemmas.List.Sums.{length-filter}
use Rattle.std.proofs.lemmas.Map.Text.{is_eq-slice_cmp}
use Rattle.ci_machine_steps.specs.Prelude.{BoardRow, Runner, Job, JobVariable, QueuedJob, RowChange, Put, Append, Remove, Record, Key, Event, AddProject, AddRunner, PauseRunner}
use Rattle.ci_machine_steps.specs.Prelude.{SetFile, SetVariable, DeleteVariable, SetMode, ShowMode, CreatePipeline, ShowPipeline, AskJob, UpdateJob, AppendTrace, ShowJob}
use Rattle.ci_machine_steps.specs.Prelude.{ShowTrace, Read, Play, CancelJob, CancelPipeline, RetryJob, PruneOne, Seed, Answer, M15, MAX_NUMBER, State, job_variable_cmp, placed}
use Rattle.ci_machine_steps.specs.Prelude.{others, put, with_record, without_record, changed, applied, with_default, granted_variables, Plan, refused, token_of, groups_in, granted}
use Rattle.ci_machine_steps.specs.Prelude.{ask_job, chosen, Happens, runner_with, variables_of, queue, offer, offered_variables, is_created, is_grant, Ascend, GivesInOrder}
use Rattle.ci_machine.proofs.Keyed.{Has, has_filter, has_placed, filter_none, equal}

-- each is less than those after it
abbrev pub Ordered : {A : Type 0} → (A → A → Ordering) → List A → Type 0
Ordered cmp [] = Unit {0}
Ordered {A} cmp (x ∷ xs) = ((y : A) → Has y xs → cmp x y ≡ Less) × Ordered cmp xs

less_is : (r : Ordering) → is_lt r ≡ true → r ≡ Less
less_is Less e = refl
less_is Equal e = absurd (false≢true e)
less_is Greater e = absurd (false≢true e)

greater_turned : (r : Ordering) → is_lt r ≡ false → is_eq r ≡ false → ordering_reverse r ≡ Less
greater_turned Less e f = absurd (false≢true (sym e))
greater_turned Equal e f = absurd (false≢true (sym f))
greater_turned Greater e f = refl

not_so : (b : Bool) → not b ≡ true → b ≡ false
not_so true e = absurd (false≢true e)
not_so false e = refl

pub filter_ordered : {A : Type 0} (cmp : A → A → Ordering) (p : A → Bool) (xs : List A) → Ordered cmp xs → Ordered cmp (filter p xs)
filter_ordered cmp p [] r = tt
filter_ordered cmp p (z ∷ zs) r =
    cond_both (p z) (z ∷ filter p zs) (filter p zs) (λ l. Ordered cmp l)
    (λ _. ((λ y k. r.0 y (has_filter p y zs k).0), filter_ordered cmp p zs r.1))
    (λ _. filter_ordered cmp p zs r.1)

module _ {A : Type 0} (cmp : A → A → Ordering) (o : IsTotalOrder cmp) where
  placed_ordered : (x : A) (xs : List A) → Ordered cmp xs → ((y : A) → Has y xs → is_eq (cmp y x) ≡ false) → Ordered cmp (placed cmp x xs)
  placed_ordered x [] r d = ((λ y k. absurd k), tt)
  placed_ordered x (z ∷ zs) r d =
      cond_both (is_lt (cmp z x)) (z ∷ placed cmp x zs) (x ∷ z ∷ zs) (λ l. Ordered cmp l)
      (λ e. (
        (λ y k. ⊎_elim (λ q. subst (λ w. cmp z w ≡ Less) (sym q) (less_is (cmp z x) e)) (λ m. r.0 y m) (has_placed cmp x y zs k)),
        placed_ordered x zs r.1 (λ y k. d y (inr k)),
      ))
      (λ e. let first : cmp x z ≡ Less = o.antisymm x z ∙ greater_turned (cmp z x) e (d z (inl refl)) in
      ((λ y k. ⊎_elim (λ q. subst (λ w. cmp x w ≡ Less) (sym q) first) (λ m. o.trans x z y first (r.0 y m)) k), r))

  pub put_ordered : (x : A) (xs : List A) → Ordered cmp xs → Ordered cmp (put cmp x xs)
  put_ordered x xs r =
      let rest = λ (y : A). not (is_eq (cmp y x)) in
      placed_ordered x (others cmp x xs) (filter_ordered cmp rest xs r) (λ y k. not_so (is_eq (cmp y x)) (has_filter rest y xs k).1)

  -- inserted after all that are less
  insert_placed : (x : A) (xs : List A) → Ordered cmp xs → insert xs (length (filter (λ w. is_lt (cmp w x)) xs)) x ≡ placed cmp x xs
  insert_placed x [] r = refl
  insert_placed x (z ∷ zs) r =
      let less = λ (w : A). is_lt (cmp w x) in
      ⊎_elim
      (λ e. rw e (ap (λ l. z ∷ l) (insert_placed x zs r.1)))
      (λ e. let none : filter less zs ≡ []
      = filter_none less zs (λ y k. ⊎_elim (λ t. absurd (both_ways (less z) e (ap is_lt (o.trans z y x (r.0 y k) (less_is (cmp y x) t))))) (λ f. f) (cases_Bool (less y))) in
      rw e (ap (λ l. insert (z ∷ zs) (length l) x) none))
      (cases_Bool (less z))

-- ---- a job's variables

variable_total : IsTotalOrder job_variable_cmp
variable_total = then_total (on_total (λ (v : JobVariable). v.job) nat_cmp_total) (on_total (λ (v : JobVariable). v.key) nat_list_cmp_total)

abbrev key_cmp : JobVariable → JobVariable → Ordering
key_cmp v w = slice_cmp nat_cmp v.key w.key

key_total : IsTotalOrder key_cmp
key_total = on_total (λ (v : JobVariable). v.key) nat_list_cmp_total

key_less : (v w : JobVariable) → v.job ≡ w.job → job_variable_cmp v w ≡ Less → key_cmp v w ≡ Less
key_less v w e less =
    let tied = (Equal-is (nat_cmp v.job w.job)).0 (equal v.job w.job e) in
    sym (ap (λ r. ordering_then r (key_cmp v w)) tied) ∙ less

by_key : (n : ℕ) (vs : List JobVariable) → ((v : JobVariable) → Has v vs → v.job ≡ n) → Ordered job_variable_cmp vs → Ordered key_cmp vs
by_key n [] same r = tt
by_key n (z ∷ zs) same r =
    ((λ v k. key_less z v (same z (inl refl) ∙ sym (same v (inr k))) (r.0 v k)), by_key n zs (λ v k. same v (inr k)) r.1)

none_alike : (v : JobVariable) (vs : List JobVariable) → list_any (λ w. bytes_eq w.key v.key) vs ≡ false → (w : JobVariable) → Has w vs → bytes_eq w.key v.key ≡ false
none_alike v [] e w k = absurd k
none_alike v (z ∷ zs) e w k =
    ⊎_elim
    (λ t. absurd (both_ways (list_any (λ u. bytes_eq u.key v.key) (z ∷ zs)) e (ap (λ b. b || list_any (λ u. bytes_eq u.key v.key) zs) t)))
    (λ f. ⊎_elim
    (λ q. ap (λ (u : JobVariable). bytes_eq u.key v.key) q ∙ f)
    (λ m. none_alike v zs (sym (ap (λ b. b || list_any (λ u. bytes_eq u.key v.key) zs) f) ∙ e) w m) k)
    (cases_Bool (bytes_eq z.key v.key))

default_ordered : (v : JobVariable) (vs : List JobVariable) → Ordered key_cmp vs → Ordered key_cmp (with_default v vs)
default_ordered v vs r =
    let less = λ (w : JobVariable). is_lt (slice_cmp nat_cmp w.key v.key) in
    cond_both (list_any (λ w. bytes_eq w.key v.key) vs) vs (insert vs (count_by less vs) v) (λ l. Ordered key_cmp l)
    (λ _. r)
    (λ e. subst (λ l. Ordered key_cmp l) (sym (ap (λ n. insert vs n v) (sym (length-filter less vs)) ∙ insert_placed key_cmp key_total v vs r))
    (placed_ordered key_cmp key_total v vs r (λ w k. is_eq-slice_cmp w.key v.key ∙ none_alike v vs e w k)))

all_less : (z : JobVariable) (zs : List JobVariable) → ((v : JobVariable) → Has v zs → key_cmp z v ≡ Less) → AllByRecursion (λ k. slice_cmp nat_cmp z.key k ≡ Less) (map (λ v. v.key) zs)
all_less z [] h = tt
all_less z (v ∷ vs) h = (h v (inl refl), all_less z vs (λ w k. h w (inr k)))

ascend : (vs : List JobVariable) → Ordered key_cmp vs → Ascend vs
unfolding IsStrictlySortedBy
ascend [] r = tt
ascend (z ∷ zs) r = (all_less z zs r.0, ascend zs r.1)

granted_ascend : (s : State) (job : Job) (attempt n : ℕ) → Ordered job_variable_cmp s.job_variables → Ascend (granted_variables job attempt (variables_of s n))
granted_ascend s job attempt n r =
    let its = λ (v : JobVariable). v.job == n in
    ascend _ (default_ordered _ _ (default_ordered _ (variables_of s n)
    (by_key n (variables_of s n) (λ v k. eqb-true v.job n (has_filter its v s.job_variables k).1) (filter_ordered job_variable_cmp its s.job_variables r))))

-- ---- each change keeps the order

recorded : (r : Record) (s : State) → Ordered job_variable_cmp s.job_variables → Ordered job_variable_cmp (with_record r s).job_variables
recorded (Record.Project p) s o = o
recorded (Record.Variable v) s o = o
recorded (Record.Runner p) s o = o
recorded (Record.Pipeline p) s o = o
recorded (Record.Job p) s o = o
recorded (Record.JobVariable v) s o = put_ordered job_variable_cmp variable_total v s.job_variables o
recorded (Record.Need n) s o = o
recorded (Record.Attempt p) s o = o
recorded (Record.Mode m) s o = o
recorded (Record.Next c n) s o = o

removed : (k : Key) (s : State) → Ordered job_variable_cmp s.job_variables → Ordered job_variable_cmp (without_record k s).job_variables
removed (Key.Project n) s o = o
removed (Key.Variable n name) s o = o
removed (Key.Runner n) s o = o
removed (Key.Pipeline n) s o = o
removed (Key.Job n) s o = o
removed (Key.JobVariable n name) s o = filter_ordered job_variable_cmp _ s.job_variables o
removed (Key.JobVariables n) s o = filter_ordered job_variable_cmp _ s.job_variables o
removed (Key.Need n pred) s o = o
removed (Key.Needs n) s o = o
removed (Key.Attempt n) s o = o
removed (Key.Mode n name) s o = o
removed (Key.Trace n) s o = o

one_change : (c : RowChange) (s : State) → Ordered job_variable_cmp s.job_variables → Ordered job_variable_cmp (changed c s).job_variables
one_change (Put r) s o = recorded r s o
one_change (Append t) s o = o
one_change (Remove k) s o = removed k s o

pub changes_ordered : (cs : List RowChange) (s : State) → Ordered job_variable_cmp s.job_variables → Ordered job_variable_cmp (applied cs s).job_variables
changes_ordered [] s o = o
changes_ordered (c ∷ cs) s o = changes_ordered cs (changed c s) (one_change c s o)

-- ---- a grant

abbrev Gives : State → Plan → Type 0
Gives s plan = is_created plan.0.status ≡ true → GivesInOrder s (Answer.Reply plan.0)

offers : (s : State) (now : ℕ) (seed : Seed) → Ordered job_variable_cmp s.job_variables → (runner : Runner) (q : Option QueuedJob) → Gives s (ask_job (Some runner) q (offered_variables s q) s.next.attempt now seed)
offers s now seed o runner None = λ e. absurd (false≢true e)
offers s now seed o runner (Some q) =
    cond_both (nat_lt MAX_NUMBER s.next.attempt) (refused M15) (granted runner q (variables_of s q.job.id) s.next.attempt now seed) (Gives s)
    (λ _ e. absurd (false≢true e))
    (λ _ _. (q, token_of (codes "j") s.next.attempt seed, refl, granted_ascend s q.job s.next.attempt q.job.id o))

asks : (s : State) (board : List BoardRow) (now : ℕ) (seed : Seed) → Ordered job_variable_cmp s.job_variables → (runner : Option Runner)
    → Gives s (ask_job runner (offer s board runner) (offered_variables s (offer s board runner)) s.next.attempt now seed)
asks s board now seed o None = λ e. absurd (false≢true e)
asks s board now seed o (Some runner) = offers s now seed o runner (chosen (queue s board) (groups_in s board) runner)

pub gives_in_order : (s : State) (board : List BoardRow) (e : Event) (now : ℕ) (seed : Seed) (a : Answer) (changes : List RowChange)
    → Ordered job_variable_cmp s.job_variables → Happens s board e now seed a changes → is_grant e a ≡ true → GivesInOrder s a
gives_in_order s board (Event.Request (AskJob token)) now seed (Answer.Reply reply) changes o is g = subst (Gives s) (sym is) (asks s board now seed o (runner_with s token)) g
gives_in_order s board (Event.Request request) now seed (Answer.Swept swept) changes o is g = absurd is
gives_in_order s board Event.Sweep now seed a changes o is g = absurd (false≢true g)
gives_in_order s board (Event.Request (AddProject x)) now seed (Answer.Reply reply) changes o is g = absurd (false≢true g)
gives_in_order s board (Event.Request (AddRunner x)) now seed (Answer.Reply reply) changes o is g = absurd (false≢true g)
gives_in_order s board (Event.Request (PauseRunner x)) now seed (Answer.Reply reply) changes o is g = absurd (false≢true g)
gives_in_order s board (Event.Request (SetFile x)) now seed (Answer.Reply reply) changes o is g = absurd (false≢true g)
gives_in_order s board (Event.Request (SetVariable x)) now seed (Answer.Reply reply) changes o is g = absurd (false≢true g)
gives_in_order s board (Event.Request (DeleteVariable x)) now seed (Answer.Reply reply) changes o is g = absurd (false≢true g)
gives_in_order s board (Event.Request (SetMode x)) now seed (Answer.Reply reply) changes o is g = absurd (false≢true g)
gives_in_order s board (Event.Request (ShowMode x)) now seed (Answer.Reply reply) changes o is g = absurd (false≢true g)
gives_in_order s board (Event.Request (CreatePipeline x)) now seed (Answer.Reply reply) changes o is g = absurd (false≢true g)
gives_in_order s board (Event.Request (ShowPipeline x)) now seed (Answer.Reply reply) changes o is g = absurd (false≢true g)
gives_in_order s board (Event.Request (UpdateJob x)) now seed (Answer.Reply reply) changes o is g = absurd (false≢true g)
gives_in_order s board (Event.Request (AppendTrace x)) now seed (Answer.Reply reply) changes o is g = absurd (false≢true g)
gives_in_order s board (Event.Request (ShowJob x)) now seed (Answer.Reply reply) changes o is g = absurd (false≢true g)
gives_in_order s board (Event.Request (ShowTrace x)) now seed (Answer.Reply reply) changes o is g = absurd (false≢true g)
gives_in_order s board (Event.Request (Read x)) now seed (Answer.Reply reply) changes o is g = absurd (false≢true g)
gives_in_order s board (Event.Request (Play x)) now seed (Answer.Reply reply) changes o is g = absurd (false≢true g)
gives_in_order s board (Event.Request (CancelJob x)) now seed (Answer.Reply reply) changes o is g = absurd (false≢true g)
gives_in_order s board (Event.Request (CancelPipeline x)) now seed (Answer.Reply reply) changes o is g = absurd (false≢true g)
gives_in_order s board (Event.Request (RetryJob x)) now seed (Answer.Reply reply) changes o is g = absurd (false≢true g)
gives_in_order s board (Event.Request (PruneOne x)) now seed (Answer.Reply reply) changes o is g = absurd (false≢true g)
