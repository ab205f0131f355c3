-- A job whose last attempt is live is running, by its row.
use Rattle.std.proofs.Common.{◌≡◌, ◌<◌, true, ◌==◌, if◌then◌else◌, List, length, Option, Some, None, option_map, slice_index_or, refl, sym, ap, subst, ◌∙◌, eq-eqb}
use Rattle.std.proofs.lemmas.Bool.{cond-true}
use Rattle.std.proofs.lemmas.List.{get_or-map, length-map}
use Rattle.ci_machine.specs.Prelude.{Part, part_at}
use Rattle.ci_machine_steps.specs.Prelude.{Status, Facts, Row, Effect, status_by, status_of_effects, idle_status, no_facts, no_row, facts_at, statuses, effects_of, Job, Attempt}
use Rattle.ci_machine_steps.specs.Prelude.{BoardRow, State, jobs_of, numbers_of, graph_of, facts_in, facts_of, row_for, rows_of, AreBoard, is_live, last_attempt}
use Rattle.ci_board.specs.Standing as standing
use Rattle.ci_board.specs.Prelude.{row_at}
use Rattle.ci_machine.proofs.Keyed.{Has, filter_has, contains_from_has}

-- a job runs where its last attempt is live, whatever it waits for
running : (part : Part) (facts : Facts) (effects : List Effect) → standing.is_live facts.last ≡ true → status_of_effects part facts effects ≡ Status.Running
running part facts effects live =
    ap (λ (s : Option Status). status_by s (idle_status part facts effects))
    (cond-true (standing.is_live facts.last) (Some Status.Running)
    (if facts.cancelled then Some Status.Canceled else if facts.attempts == 0 then None else standing.after_last part facts.attempts facts.last) live)

-- the status of a job is that of its facts, and of what its predecessors mean to it
row_settled : (s : State) (board : List BoardRow) → AreBoard s board → (job : Job) → Has job s.jobs → (part : Part) × (effects : List Effect) × ((row_for board job.id).status ≡ status_of_effects part (facts_in s job) effects)
row_settled s board are job has =
    let jobs = jobs_of s job.pipeline in
    let at = contains_from_has job jobs (filter_has (λ (j : Job). j.pipeline == job.pipeline) job s.jobs has (eq-eqb job.pipeline job.pipeline refl)) in
    let k = at.0 in
    let part = part_at (graph_of s job.pipeline) k in
    let within : k < length (graph_of s job.pipeline).parts = subst (λ n. k < n) (sym (length-map jobs (λ (j : Job). j.options.part))) at.1 in
    let facts : facts_at (facts_of s job.pipeline) k ≡ facts_in s job = get_or-map (facts_in s) jobs k job no_facts at.1 ∙ ap (facts_in s) at.2 in
    let numbered : k < length (numbers_of s job.pipeline) = subst (λ n. k < n) (sym (length-map jobs (λ (j : Job). j.id))) at.1 in
    let number : slice_index_or (numbers_of s job.pipeline) k 0 ≡ job.id = get_or-map (λ (j : Job). j.id) jobs k job 0 at.1 ∙ ap (λ (j : Job). j.id) at.2 in
    let row : row_at (rows_of s board job.pipeline) k ≡ row_for board job.id = get_or-map (row_for board) (numbers_of s job.pipeline) k 0 no_row numbered ∙ ap (row_for board) number in
    let effects = effects_of (graph_of s job.pipeline) (facts_of s job.pipeline) (statuses (rows_of s board job.pipeline)) k in (
      part,
      effects,
      sym (ap (λ (r : Row). r.status) row) ∙ ((are.each job.pipeline).is k within ∙ ap (λ (f : Facts). status_of_effects part f effects) facts),
    )

pub live_runs : (s : State) (board : List BoardRow) → AreBoard s board → (job : Job) → Has job s.jobs → (a : Attempt) → last_attempt s job.id ≡ Some a → is_live a ≡ true → (row_for board job.id).status ≡ Status.Running
live_runs s board are job has a last live =
    let settled = row_settled s board are job has in
    let runs : standing.is_live (facts_in s job).last ≡ true = ap (λ (o : Option Attempt). standing.is_live (option_map (λ (b : Attempt). b.state) o)) last ∙ live in
    settled.2 ∙ running settled.0 (facts_in s job) settled.1 runs
