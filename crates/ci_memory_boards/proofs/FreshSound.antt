-- Where what is kept is what the machine may come to, pipelines and jobs are new from the next numbers on.
use Rattle.std.proofs.Common.{◌≡◌, ◌<◌, ℕ, List, map, All, Contains, sym, subst}
use Rattle.ci_machine_steps.specs.Prelude.{Attempt, BoardRow, Job, Need, Pipeline, Kept, AreBoard, IsSound}
use Rattle.ci_machine.proofs.Keyed.{has_from_all, All-from_has, has_map, contains_from_has, named_contains}
use Rattle.ci_memory_boards.specs.Fresh.{IsFresh}
use Rattle.ci_memory_boards.specs.declared.fresh.Fresh.{Fresh}
use Rattle.std.proofs.lemmas.List.Elements.{All-weaker}

-- the number of one of a list whose numbers are all less than another
one_below : {A : Type 0} (id : A → ℕ) (n next : ℕ) (xs : List A) → All (λ x. id x < next) xs → Contains (map id xs) n → n < next
one_below id n next xs all has =
    let named = named_contains id n xs has in
    subst (λ m. m < next) named.1.1 (has_from_all (λ (x : _). id x < next) named.0 xs all named.1.0)

module _ (k : Kept) (sound : IsSound k.state) where
  of_a_job : (n : ℕ) → Contains (map (λ j. j.id) k.state.jobs) n → n < k.state.next.job
  of_a_job n has = one_below (λ (j : Job). j.id) n k.state.next.job k.state.jobs sound.jobs_below has

  of_a_pipeline : (n : ℕ) → Contains (map (λ p. p.id) k.state.pipelines) n → n < k.state.next.pipeline
  of_a_pipeline n has = one_below (λ (p : Pipeline). p.id) n k.state.next.pipeline k.state.pipelines sound.pipelines_below has

pub fresh_if_sound : (f : Fresh) (k : Kept) → IsSound k.state → AreBoard k.state k.board → f.pipeline ≡ k.state.next.pipeline → f.job ≡ k.state.next.job → IsFresh f k
fresh_if_sound f k sound board pipeline job = record {
  jobs = subst (λ n. All (λ (j : Job). j.pipeline < n) k.state.jobs) (sym pipeline)
      (All-weaker (λ (j : Job). Contains (map (λ p. p.id) k.state.pipelines) j.pipeline) (λ (j : Job). j.pipeline < k.state.next.pipeline) (λ j has. of_a_pipeline k sound j.pipeline has) k.state.jobs sound.linked.job_pipeline);
  needs = subst (λ n. All (λ (w : Need). w.job < n) k.state.needs) (sym job)
      (All-weaker (λ (w : Need). Contains (map (λ j. j.id) k.state.jobs) w.job) (λ (w : Need). w.job < k.state.next.job) (λ w has. of_a_job k sound w.job has) k.state.needs sound.linked.need_job);
  attempts = subst (λ n. All (λ (a : Attempt). a.job < n) k.state.attempts) (sym job)
      (All-weaker (λ (a : Attempt). Contains (map (λ j. j.id) k.state.jobs) a.job) (λ (a : Attempt). a.job < k.state.next.job) (λ a has. of_a_job k sound a.job has) k.state.attempts sound.linked.attempt_job);
  rows = subst (λ n. All (λ (r : BoardRow). r.job < n) k.board) (sym job)
      (All-from_has (λ (r : BoardRow). r.job < k.state.next.job) k.board
      (λ r h. of_a_job k sound r.job (subst (λ (ns : List ℕ). Contains ns r.job) board.keys (contains_from_has r.job (map (λ (x : BoardRow). x.job) k.board) (has_map (λ (x : BoardRow). x.job) r k.board h)))));
}
