use Rattle.ci_machine_laws.proofs.Prelude.{refl, ap, has_from_contains, jobs_left, no_jobs, job_was, attempts_left, trace_left, sound}
use Rattle.ci_machine_steps.specs.Prelude.{Plan}
use Rattle.ci_machine_laws.proofs.Finished.{leases_left, holders_left, its_plan, then_left, is_finished}
use Rattle.ci_machine_laws.proofs.laws.a_prune_leaves_the_rest.Goals as goal

pub returns : goal.returns
returns c = record {
  reply = λ s board before now seed plan p is found. ap (λ (f : Plan). f.0) (its_plan s board before now seed plan p is found);
  left = then_left;
  no_jobs = λ s n i. no_jobs s n (sound s i).jobs (sound s i).attempts;
  jobs = λ s n m i other. jobs_left s n (sound s i).jobs (sound s i).attempts m other;
  attempts = λ s n j i has.
      let known = sound s i in
      let was = job_was s n known.jobs known.attempts j (has_from_contains j _ has) in
      attempts_left s n known.jobs known.attempts j was.0 was.1;
  traces = λ s n a i has. trace_left s n (sound s i).jobs (sound s i).attempts a (has_from_contains a _ has);
  leases = λ s board before p i are found. leases_left s board p (sound s i) are (is_finished s board before p found);
  groups = λ s board before p i are found. holders_left s board p (sound s i) are (is_finished s board before p found);
  modes = λ _ _. refl;
}
