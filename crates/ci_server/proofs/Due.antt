-- A sweep that finds nothing leaves the state as it was, in which nothing is due.
use Rattle.std.proofs.Common.{◌≡◌, ℕ, Bool, true, false, Option, Some, None, List, [], ◌∷◌, ◌++◌, refl, sym, ap, subst, ◌∙◌}
use Rattle.ci_store.specs.Prelude.{Ghosts}
use Rattle.ci_machine_steps.specs.Prelude.{RowChange, Lease, Attempt, Job, Pipeline, Answer, Code, M16, M17, Swept, Event, Seed, first_due, State, applied, Past, IsReached}
use Rattle.ci_machine_steps.specs.Prelude.{NoneIsDue, NoneIsRedundant, Step, leases, redundant_in, cancellable_in, sweep}
use Rattle.ci_machine_laws.specs.Examples.{seed}
use Rattle.ci_machine_laws.specs.Sweeping as machine
use Rattle.ci_server.specs.Prelude.{FindsNothingDue, LeavesNothingDue, Handled, answered, no_memory, look_failed, commit_failed, HoldsIn, LeavesIn, IsHonest, Handles, ServerOver}

-- the law of sweeps whose last finds nothing
abbrev pub NoneLeft : Type 0
NoneLeft = (s t : State) (now : ℕ) (did : List Swept) → IsReached s → machine.Sweeps now s (did ++ (Swept.Nothing ∷ [])) t → NoneIsDue t now × NoneIsRedundant t

no_changes : (due : Option Lease) (redundant : Option Pipeline) (attempts : List Attempt) (jobs : List Job) → (sweep due redundant attempts jobs).0 ≡ Swept.Nothing → (sweep due redundant attempts jobs).1 ≡ []
no_changes (Some l) redundant attempts jobs e = absurd (cc)
no_changes None (Some p) attempts jobs e = absurd (cc)
no_changes None None attempts jobs e = refl

-- the state stays
stays : (s t : State) (now : ℕ) (chance : Seed) → Step s Event.Sweep now chance (Answer.Swept Swept.Nothing) t → t ≡ s
stays s t now chance step =
    let none = no_changes (first_due (leases s) now) (redundant_in s step.before) s.attempts (cancellable_in s step.before (redundant_in s step.before))
    (sym (ap (λ (f : Swept × List RowChange). f.0) step.happens)) in
    step.state ∙ ap (λ (cs : List RowChange). applied cs s) (ap (λ (f : Swept × List RowChange). f.1) step.happens ∙ none)

not_refused : (did : Swept) (code : Code) → ((why : Code) → did ≡ Swept.Refused why → ⊥) → Answer.Swept did ≡ Answer.Swept (Swept.Refused code) → ⊥
not_refused (Swept.Ended attempt cause) code isnt e = cc
not_refused (Swept.Cancelled pipeline) code isnt e = cc
not_refused Swept.Nothing code isnt e = cc
not_refused (Swept.Refused why) code isnt e = isnt why refl

module _ {S : Type 0} (g : Ghosts S) (now : ℕ) where
  -- one sweep, whatever the seed
  abbrev Sweeps : ServerOver S → Swept → ServerOver S → Type 0
  Sweeps old did new = (seed : Seed) → Handles g old (Event.Sweep, now, seed) new (Answer.Swept did)

  -- a sweep that wasn't refused was a step of the machine
  abbrev IsStep : ServerOver S → State → Swept → Type 0
  IsStep new s did = (t : State) × Step s Event.Sweep now seed (Answer.Swept did) t × HoldsIn g t new.store

  of_handled : (new : ServerOver S) (s : State) (did : Swept) → ((why : Code) → did ≡ Swept.Refused why → ⊥) → (a : Answer) → a ≡ Answer.Swept did
      → Handled (λ h u. HoldsIn g u h) (λ h u v. LeavesIn g u v h) (Event.Sweep, now, seed) s new.store new.closed a → IsStep new s did
  of_handled new s did isnt a is (answered t step held is_open) = (t, subst (λ (b : Answer). Step s Event.Sweep now seed b t) is step, held)
  of_handled new s did isnt a is (no_memory refused held is_open) = absurd (not_refused did M16 isnt (sym is ∙ refused))
  of_handled new s did isnt a is (look_failed refused left shut) = absurd (not_refused did M17 isnt (sym is ∙ refused))
  of_handled new s did isnt a is (commit_failed b t step refused left shut) = absurd (not_refused did M17 isnt (sym is ∙ refused))

  of_server : (old new : ServerOver S) (closed : Bool) → old.closed ≡ closed → (did : Swept) → ((why : Code) → did ≡ Swept.Refused why → ⊥) → Sweeps old did new
      → IsHonest g new.store → (s : State) → IsReached s → HoldsIn g s old.store → IsStep new s did
  of_server old new false is did isnt sweeps honest s reached held = of_handled new s did isnt (Answer.Swept did) refl ((sweeps seed).while_open is honest s reached held)
  of_server old new true is did isnt sweeps honest s reached held = absurd (not_refused did M17 isnt ((sweeps seed).once_closed is).0)

  -- ---- the sweep that finds nothing

  pub finds_nothing_due : NoneLeft → (old new : ServerOver S) → Sweeps old Swept.Nothing new → FindsNothingDue g now old new
  finds_nothing_due law old new sweeps honest s reached held =
      let step = of_server old new old.closed refl Swept.Nothing (λ why e. cc) sweeps honest s reached held in
      let same = stays s step.0 now seed step.1 in
      let none = law s step.0 now [] reached (step.0, seed, step.1, refl) in
      record {
        holds = subst (λ (u : State). HoldsIn g u new.store) same step.2;
        none_due = subst (λ (u : State). NoneIsDue u now) same none.0;
        none_redundant = subst NoneIsRedundant same none.1;
      }

  -- ---- sweeps before it

  -- from each state that a history leads to and that the server held it has come to another
  abbrev pub LeavesReached : ServerOver S → ServerOver S → Type 0
  LeavesReached old new = IsHonest g new.store → (s : State) → IsReached s → HoldsIn g s old.store → (t : State) × IsReached t × HoldsIn g t new.store

  pub one_more : (old mid new : ServerOver S) (did : Swept) → LeavesReached old mid → Sweeps mid did new → ((why : Code) → did ≡ Swept.Refused why → ⊥) → LeavesReached old new
  one_more old mid new did before sweeps isnt honest s reached held =
      let there = before ((sweeps seed).was_honest honest) s reached held in
      let step = of_server mid new mid.closed refl did isnt sweeps honest there.0 there.1 there.2 in
      let line : Past = record { before = there.0; event = Event.Sweep; now = now; seed = seed; answer = Answer.Swept did } in
      (step.0, (line ∷ there.1.0, (there.1.1, step.1)), step.2)

  pub nothing_more : (old mid new : ServerOver S) → LeavesReached old mid → Sweeps mid Swept.Nothing new → FindsNothingDue g now mid new → LeavesNothingDue g now old new
  nothing_more old mid new before sweeps finds honest s reached held =
      let there = before ((sweeps seed).was_honest honest) s reached held in
      (there.0, there.1, finds honest there.0 there.1 there.2)
