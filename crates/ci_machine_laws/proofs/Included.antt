-- Each job came into its pipeline by its rules, in every state that a history leads to.
use Rattle.ci_machine_laws.proofs.Prelude.{rules, ◌≡◌, ◌⊎◌, ℕ, List, [], ◌∷◌, Ok, refl, sym, ap, subst, ◌∙◌, inl, inr, ⊎_elim, Contains-append_right, Has, Rising}
use Rattle.ci_machine_laws.proofs.Prelude.{contains_from_has, has_all, new_are, laid_is, lineup_are, job_was}
use Rattle.ci_machine_steps.specs.Prelude.{BoardRow, Job, Attempt, Event, Seed, Answer, State, job_cmp, new_job, creation, pipeline_created, Past, Leads, job_for_good, IsMadeBy}
use Rattle.ci_machine_steps.specs.Prelude.{WasIncluded}
use Rattle.ci_machine_laws.proofs.EachPlan.{given_in}
use Rattle.ci_machine_laws.proofs.EachNext.{EachNext, next_is}
use Rattle.ci_machine_laws.proofs.Reached.{line, reached}

-- the job was there, with what it has for good
abbrev Was : State → Job → Type 0
Was s j = (old : Job) × (Has old s.jobs × (job_for_good j ≡ job_for_good old))

there : (s : State) (j : Job) → Has j s.jobs → Was s j
there s j k = (j, (k, refl))

-- each job of the next state was there, or the line made it
abbrev From : State → Event → ℕ → Seed → Answer → State → Type 0
From s e now seed a t = (j : Job) → Has j t.jobs → Was s j ⊎ IsMadeBy (line s e now seed a) j

are : (s : State) (board : List BoardRow) (e : Event) (now : ℕ) (seed : Seed) → Rising (λ (w : Job). w.id) 0 s.jobs → Rising (λ (a : Attempt). a.id) 0 s.attempts → EachNext s board e (From s e now seed)
are s board e now seed jobs_rise rise = record {
  stays = λ _ _. same;
  aside = λ _ _ t by. same;
  pipeline = λ new at is project text laid claims rows asked has named file lays fits j k.
      let made = creation s.next.pipeline s.next.job new (given_in s new) at laid in
      let lays = laid_is text (given_in s new) (Ok laid) lays in
      ⊎_elim (λ m. inl (there s j m))
      (λ m. let n = new_are s.next.pipeline s.next.job 0 laid.plan.jobs j m in
      let drawn : j.pipeline ≡ s.next.pipeline = ap (λ (w : Job). w.pipeline) n.job in
      let of = lineup_are (given_in s new) laid.config n.as_said (subst (Has n.as_said) lays.1.0 n.has) in
      inr (record {
        new = new;
        asked = is;
        reply = (pipeline_created s.next.job made claims rows).0;
        answered = refl;
        made = refl;
        drawn = drawn;
        project = project;
        its_project = asked;
        text = text;
        its_file = file;
        configured = laid.config;
        read = lays.0;
        spec = of.0;
        listed = contains_from_has of.0 laid.config.jobs of.1.0;
        as_said = n.as_said;
        is_included = of.1.1;
        fixed = ap job_for_good n.job ∙ ap (λ q. new_job q s.next.job j.position n.as_said) (sym drawn);
      }))
      (has_all job_cmp made.jobs s.jobs j k);
  granted = λ token is runner job q variables now seed found offered has_runner has_job pending is_queued free. same;
  alters = λ _ _ old seen state has live. same;
  grown = λ part is old at size has its live. same;
  acted = λ _ _ changes act j k. inl (⊎_elim (there s j) (λ m. let w = act.each_job j m in (w.old, (w.has, w.good))) (has_all job_cmp act.jobs s.jobs j k));
  pruned = λ p before is found j k. inl (there s j (job_was s p.id jobs_rise rise j k).0);
} where
  same : {a : Answer} → From s e now seed a s
  same j k = inl (there s j k)

more : (p : Past) (h : List Past) (j : Job) → WasIncluded h j → WasIncluded (p ∷ h) j
more p h j w = (w.0, Contains-append_right (p ∷ []) h w.0 w.1, w.2)

-- what has been included is included with other marks too
alike : (p : Past) (j old : Job) → job_for_good j ≡ job_for_good old → IsMadeBy p old → IsMadeBy p j
alike p j old good m =
    let pipeline : j.pipeline ≡ old.pipeline = ap (λ (w : Job). w.pipeline) good in
    let position : j.position ≡ old.position = ap (λ (w : Job). w.position) good in
    let drawn : j.pipeline ≡ p.before.next.pipeline = pipeline ∙ m.drawn in
    let fixed : job_for_good j ≡ new_job j.pipeline p.before.next.job j.position m.as_said = good ∙ (m.fixed ∙ sym (λ i. new_job (pipeline i) p.before.next.job (position i) m.as_said)) in
    search rules

-- each job of a reached state was included
included : (h : List Past) (s : State) → Leads h s → (j : Job) → Has j s.jobs → WasIncluded h j
included [] s l j k = absurd (subst (λ (t : State). Has j t.jobs) l k)
included (p ∷ h) s l j k =
    let grants = (reached h p.before l.0).grants in
    ⊎_elim
    (λ m. let was = included h p.before l.0 m.0 m.1.0 in more p h j (was.0, was.1, alike was.0 j m.0 m.1.1 was.2))
    (λ q. (p, contains_from_has p (p ∷ h) (inl refl), q))
    (next_is p.before l.1.before grants.jobs_rise grants.rise (From p.before p.event p.now p.seed) p.event p.now p.seed p.answer l.1.changes (are p.before l.1.before p.event p.now p.seed grants.jobs_rise grants.rise) l.1.happens j (subst (λ (t : State). Has j t.jobs) l.1.state k))

-- and so was each job of an earlier state
pub was_included : (h : List Past) (s : State) → Leads h s → (p : Past) → Has p h → (j : Job) → Has j p.before.jobs → WasIncluded h j
was_included [] s l p m j k = absurd m
was_included (q ∷ h) s l p m j k =
    ⊎_elim
    (λ e. more q h j (included h q.before l.0 j (subst (λ (w : Past). Has j w.before.jobs) e k)))
    (λ n. more q h j (was_included h q.before l.0 p n j k))
    m
