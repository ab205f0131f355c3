use Rattle.std.proofs.Common.{◌≡◌, ℕ, ◌<◌, List, Option, Some, None, Contains, sym, ap, subst, ◌∙◌, arith}
use Rattle.std.specs.List.{position}
use Rattle.std.proofs.lemmas.List.Quantifiers.{position-Some}
use Rattle.ci_machine_steps.specs.Prelude.{GroupOrder}
use Rattle.ci_server_lookups.proofs.Loading.{says, stays}
use Rattle.ci_memory_queue.specs.declared.lines.Line.{Line}
use Rattle.ci_memory_queue.specs.LineCovers.{is_line_of, jobs_in, jobs_of}
use Rattle.ci_memory_queue.specs.First.{IsInGroup, IsFirst}
use Rattle.ci_memory_queue.proofs.Finds.{none_found, set_waiting, set_first}
use Rattle.ci_memory_queue.proofs.lines.turn.first_among.Goals as goal

-- the line is left with all of its group, and its first is that of the group
pub returns-in-Some : goal.returns-in-Some
returns-in-Some g c =
    let lines = c.args.lines.now.items in
    let i = c.in-Some.index in
    let old = c.index_mut.result.now in
    let new = c.first_in.new.line in
    let its = is_line_of c.args.project c.args.group.now in
    let at : position its lines ≡ Some i = subst (λ (ls : List Line). position its ls ≡ Some i) c.as_slice.ensures.value (sym c.index_of.ensures ∙ c.in-Some.is) in
    let project = c.first_in.ensures.project ∙ ap (λ (x : Line). x.project) c.index_mut.ensures.value in
    let group = c.first_in.ensures.group ∙ ap (λ (x : Line). x.group) c.index_mut.ensures.value in
    record {
      keeps = says g.T.Store.honest g.T.Store.holds g.T.Store.leaves _ _ _ c.first_in.result c.first_in.ensures.keeps
          (λ k found is left.
          set_waiting lines i new old project group k (position-Some its lines i old at).0
          (subst (λ (l : Line). (o : GroupOrder) (job pipeline : ℕ) → IsInGroup o k l.project l.group job pipeline → Contains (jobs_in o l) job → Contains (jobs_in o new) job) c.index_mut.ensures.value left));
      first = says g.T.Store.honest g.T.Store.holds g.T.Store.leaves _ _ _ c.first_in.result c.first_in.ensures.first
          (λ k found is first.
          set_first lines i new old project group k c.args.order c.args.project c.args.group.now found at
          (subst (λ (l : Line). IsFirst c.args.order k l.project l.group (jobs_in c.args.order new) found) c.index_mut.ensures.value first));
    }

-- there is no line of the group
pub returns-in-None-clause-first : goal.returns-in-None-clause-first
returns-in-None-clause-first g c =
    let its = is_line_of c.args.project c.args.group.now in
    let at : position its c.args.lines.now.items ≡ None = subst (λ (ls : List Line). position its ls ≡ None) c.as_slice.ensures.value (sym c.index_of.ensures ∙ c.in-None.is) in
    stays g.T.Store.honest g.T.Store.holds g.T.Store.leaves _ _ _ (λ k held. g.met.T.Store.held_is_left _ k held)
    (λ k. subst (λ (o : Option Line). (job : ℕ) → Contains (jobs_of c.args.order o) job → ⊥) (sym (none_found its c.args.lines.now.items at)) (λ job has. absurd (let l : has.0 < 0 = has.1 in omega arith)))
