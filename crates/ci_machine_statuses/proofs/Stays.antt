-- Changes that no status depends on.
use Rattle.std.proofs.Common.{◌≡◌, ℕ, ◌==◌, List, [], ◌∷◌, map, filter, refl, sym, ap, subst, ◌∙◌, eqb-true, ⊎_elim, arith}
use Rattle.std.specs.List.{AllByRecursion}
use Rattle.std.proofs.lemmas.Bool.{cond_both, eqb-false}
use Rattle.ci_machine_steps.specs.Prelude.{Pipeline, Job, Need, Attempt, BoardRow, Record, Key, RowChange, Put, Append, Remove, State, attempt_cmp, put, with_record}
use Rattle.ci_machine_steps.specs.Prelude.{without_record, changed, applied, jobs_of, graph_of, facts_in, AreBoard, IsSound}
use Rattle.ci_machine.proofs.Keyed.{Has, Rising, rising_put, has_put, has_from_contains, put_has, one_at, unequal}
use Rattle.ci_machine_steps.proofs.Sound.{Sound, sound}
use Rattle.ci_machine_statuses.specs.Changes.{HaveSameFacts, IsNoStatus, IsNoStatusKey, LeavesStatuses}
use Rattle.ci_machine.proofs.Found.{put_here}
use Rattle.ci_machine_statuses.proofs.Puts.{number, attempt_id, map_same}
use Rattle.ci_machine_statuses.proofs.Facts.{facts_with, same_state}
use Rattle.ci_machine_statuses.proofs.Joint.{same_facts}

-- an attempt of this number and job that stands likewise
abbrev pub Like : Attempt → List Attempt → Type 0
Like b xs = (c : Attempt) × Has c xs × (c.id ≡ b.id) × (c.job ≡ b.job) × (c.state ≡ b.state)

-- what a status depends on is as it was, where the state has these pipelines, jobs, needs and attempts
pub record AreLike (s : State) (ps : List Pipeline) (js : List Job) (ws : List Need) (bs : List Attempt) : Type 0 where
  pub pipelines : ps ≡ s.pipelines
  pub jobs : js ≡ s.jobs
  pub needs : ws ≡ s.needs
  pub rise : Rising (λ a. a.id) 0 bs
  pub attempts : (b : Attempt) → Has b s.attempts → Like b bs
  pub before : (b : Attempt) → Has b bs → Like b s.attempts
  pub facts : (j : Job) → facts_with (filter (λ a. a.job == j.id) bs) j ≡ facts_in s j

abbrev pub IsLike : State → State → Type 0
IsLike s t = AreLike s t.pipelines t.jobs t.needs t.attempts

module _ (s : State) (ascend : Rising (λ a. a.id) 0 s.attempts) where
  attempt_put : (t : State) (x b : Attempt) → Has b s.attempts → b.id ≡ x.id → b.job ≡ x.job → b.state ≡ x.state → IsLike s t → IsLike s (record t { attempts = put attempt_cmp x t.attempts })
  attempt_put t x b has its_id its_job its_state k =
      let there = k.attempts b has in
      record {
        pipelines = k.pipelines;
        jobs = k.jobs;
        needs = k.needs;
        rise = rising_put attempt_id x 0 t.attempts k.rise (omega arith);
        attempts = λ a h.
            let w = k.attempts a h in
            cond_both (w.0.id == x.id) 0 0 (λ (_ : ℕ). Like a (put attempt_cmp x t.attempts))
            (λ e. let same : b ≡ a = one_at attempt_id b a 0 s.attempts ascend has h (its_id ∙ (sym (eqb-true w.0.id x.id e) ∙ w.2)) in
            subst (λ (c : Attempt). Like c (put attempt_cmp x t.attempts)) same (x, put_here attempt_cmp x t.attempts, sym its_id, sym its_job, sym its_state))
            (λ e. (w.0, put_has attempt_cmp x w.0 t.attempts w.1 (unequal w.0.id x.id (eqb-false w.0.id x.id e)), w.2, w.3, w.4));
        before = λ c h. ⊎_elim
            (λ e. subst (λ (d : Attempt). Like d s.attempts) (sym e) (b, has, its_id, its_job, its_state))
            (λ m. k.before c m)
            (has_put attempt_cmp x c t.attempts h);
        facts = λ j.
            same_state t (record t { attempts = put attempt_cmp x t.attempts }) k.rise there.0 x there.1 (sym its_id ∙ sym there.2) (sym its_job ∙ sym there.3) refl j (sym its_state ∙ sym there.4)
            ∙ k.facts j;
      }

  record_put : (t : State) (r : Record) → IsNoStatus s r → IsLike s t → IsLike s (with_record r t)
  record_put t (Record.Attempt a) n k = attempt_put t a n.0 (has_from_contains n.0 s.attempts n.1) n.2 n.3 n.4 k
  record_put t (Record.Pipeline p) n k = absurd n
  record_put t (Record.Job j) n k = absurd n
  record_put t (Record.Need w) n k = absurd n
  record_put t _ n k = k

  record_gone : (t : State) (x : Key) → IsNoStatusKey x → IsLike s t → IsLike s (without_record x t)
  record_gone t (Key.Variable n name) u k = k
  record_gone t (Key.Mode n name) u k = k
  record_gone t _ u k = absurd u

  all_changes : (t : State) (cs : List RowChange) → AllByRecursion (LeavesStatuses s) cs → IsLike s t → IsLike s (applied cs t)
  all_changes t [] n k = k
  all_changes t (Put r ∷ cs) n k = all_changes (with_record r t) cs n.1 (record_put t r n.0 k)
  all_changes t (Append more ∷ cs) n k = all_changes (changed (Append more) t) cs n.1 k
  all_changes t (Remove x ∷ cs) n k = all_changes (without_record x t) cs n.1 (record_gone t x n.0 k)

pub like : (s : State) (changes : List RowChange) → Sound s → AllByRecursion (LeavesStatuses s) changes → IsLike s (applied changes s)
like s changes its leave =
    all_changes s its.attempts s changes leave
    (record { pipelines = refl; jobs = refl; needs = refl; rise = its.attempts; attempts = λ b h. (b, h, refl, refl, refl); before = λ b h. (b, h, refl, refl, refl); facts = λ j. refl })

-- the jobs, the needs and the facts of all jobs are the same
pub same_from_like : (s t : State) → t.jobs ≡ s.jobs → t.needs ≡ s.needs → ((j : Job) → facts_in t j ≡ facts_in s j) → HaveSameFacts s t
same_from_like s t jobs needs facts = record {
  numbers = ap (map number) jobs;
  its_numbers = λ p. ap (λ (js : List Job). map number (filter (λ j. j.pipeline == p) js)) jobs;
  graphs = λ p i. graph_of (record s { jobs = jobs i; needs = needs i }) p;
  facts = λ p. ap (λ (js : List Job). map (facts_in t) (filter (λ j. j.pipeline == p) js)) jobs ∙ map_same (facts_in t) (facts_in s) (jobs_of s p) (λ j h. facts j);
}

pub stays : (s : State) (board : List BoardRow) (changes : List RowChange) → IsSound s → AreBoard s board → AllByRecursion (LeavesStatuses s) changes → AreBoard (applied changes s) board
stays s board changes is_sound are leave =
    let k = like s changes (sound s is_sound) leave in
    same_facts s (applied changes s) board are (same_from_like s (applied changes s) k.jobs k.needs k.facts)
