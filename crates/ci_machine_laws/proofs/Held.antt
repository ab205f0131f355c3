-- What stays, which records others name, which jobs wait for which, and what sweeps end and requests prune, in every state that a history
-- leads to.
use Rattle.ci_machine_laws.proofs.Prelude.{rules, ◌≡◌, true, List, [], ◌∷◌, sym, subst, ⊎_elim, Has, All-from_has, contains_named, Ordered, changes_ordered, gives_in_order}
use Rattle.ci_machine_steps.specs.Prelude.{State, applied, job_variable_cmp, Past, Leads, IsLinked, IsSweptBy, IsPrunedBy, is_grant, GivesInOrder}
use Rattle.ci_machine_laws.proofs.EachNext.{next_is}
use Rattle.ci_machine_laws.proofs.Reached.{reached}
use Rattle.ci_machine_laws.proofs.Linked.{Linked, linked_on, follows}
use Rattle.ci_machine_laws.proofs.Joined.{Joined, joined_none, joined_on}
use Rattle.ci_machine_laws.proofs.Left.{linked_left, Since, since_line, since_through}
use Rattle.ci_machine_laws.proofs.Sweeps.{pruned_by, swept_by}

pub record Held (h : List Past) (s : State) : Type 0 where
  pub linked : Linked s
  pub joined : Joined s.jobs s.needs
  pub stays : (p : Past) → Has p h → Since h p.before s
  pub swept : (p : Past) → Has p h → IsSweptBy p.before p.now p.event p.answer
  pub pruned : (p : Past) → Has p h → IsPrunedBy p.before p.event p.answer
  pub variables : Ordered job_variable_cmp s.job_variables
  pub in_order : (p : Past) → Has p h → is_grant p.event p.answer ≡ true → GivesInOrder p.before p.answer

pub held : (h : List Past) (s : State) → Leads h s → Held h s
held [] s l = subst (Held []) (sym l) (search (rules, joined_none))
held (p ∷ h) s l =
    let i = held h p.before l.0 in
    let g = (reached h p.before l.0).grants in
    let t = applied l.1.changes p.before in
    let next = follows p.before l.1.before p.event p.now p.seed p.answer l.1.changes i.linked g.jobs_rise g.rise g.below l.1.happens in
    let one : Since (p ∷ h) p.before t = since_line p h t g.jobs_rise g.rise next in
    subst (Held (p ∷ h)) (sym l.1.state) (record {
      linked = ⊎_elim
          (λ n. linked_on p.before t i.linked n)
          (λ w. subst Linked (sym w.state) (linked_left p.before w.pipeline.id g.jobs_rise g.rise i.linked i.joined))
          next;
      joined = next_is p.before l.1.before g.jobs_rise g.rise (λ _ w. Joined w.jobs w.needs) p.event p.now p.seed p.answer l.1.changes (joined_on p.before l.1.before p.event i.linked i.joined) l.1.happens;
      stays = also (λ w. Since (p ∷ h) w.before t) one (λ q m. since_through p h q.before p.before t (i.stays q m) one);
      swept = also (λ w. IsSweptBy w.before w.now w.event w.answer) (swept_by p.before l.1.before p.event p.now p.seed p.answer l.1.changes l.1.are_before i.linked.pipelines_rise g.rise l.1.happens) i.swept;
      pruned = also (λ w. IsPrunedBy w.before w.event w.answer) (pruned_by p.before l.1.before p.event p.now p.seed p.answer l.1.changes l.1.are_before i.linked.pipelines_rise l.1.happens) i.pruned;
      variables = changes_ordered l.1.changes p.before i.variables;
      in_order = also (λ w. is_grant w.event w.answer ≡ true → GivesInOrder w.before w.answer) (gives_in_order p.before l.1.before p.event p.now p.seed p.answer l.1.changes i.variables l.1.happens) i.in_order;
    })
  where
    also : (P : Past → Type 0) → P p → ((q : Past) → Has q h → P q) → (q : Past) → Has q (p ∷ h) → P q
    also P newest others q k = ⊎_elim (λ e. subst P (sym e) newest) (others q) k

pub is_linked : (s : State) → Linked s → IsLinked s
is_linked s i = search (rules, All-from_has, contains_named, i.attempt_job, i.attempt_runner, i.job_pipeline, i.pipeline_project, i.need_job, i.need_pred)
