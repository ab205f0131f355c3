use Rattle.std.proofs.Common.{◌≡◌, IfOk, sym, subst}
use Rattle.ci_machine_steps.specs.Prelude.{Kept, next_of, Counter}
use Rattle.ci_store.specs.Prelude.{UnlessBroken}
use Rattle.ci_server_lookups.proofs.Loading.{with_both}
use Rattle.ci_memory_boards.proofs.FreshSound.{fresh_if_sound}
use Rattle.ci_memory.specs.declared.remembering.Remembering.{Remembering}
use Rattle.ci_memory.specs.Right.{IsRight}
use Rattle.ci_memory.proofs.remembering.learn_fresh.Goals as goal

-- the next numbers are those from which on all is new
pub returns : goal.returns
returns g c =
    let held_by = λ (m : Remembering _) (k : Kept). g.T.Store.holds m.store k × IsRight m.memory k in
    let both = with_both (λ m. g.T.Store.honest m.store) held_by (λ m k l. g.T.Store.leaves m.store k l) _ _ c.next-2.new.self c.next.result c.in_ok-pipeline.pipeline c.next-2.result c.in_ok-pipeline.was c.next.ensures c.next-2.ensures in
    let same = c.note_fresh.ensures.store in
    record {
      was_honest = λ h. both.was_honest (subst g.T.Store.honest same h);
      kept = λ h k held.
          let early = subst g.T.Store.honest same h in
          let was = subst (λ r. UnlessBroken r (held_by c.next-2.new.self k)) c.in_ok-job.was (both.kept early k held.0) in
          let numbers = subst (λ r. IfOk r (λ n. (c.in_ok-pipeline.pipeline ≡ next_of Counter.Pipeline k.state.next) × (n ≡ next_of Counter.Job k.state.next))) c.in_ok-job.was (both.answered early k held.0) in
          ((subst (λ s. g.T.Store.holds s k) (sym same) was.0, c.note_fresh.ensures.right k was.1 (fresh_if_sound _ k held.1.sound held.1.are_board numbers.0 numbers.1)), held.1);
      left = λ h k held. subst (λ s. g.T.Store.leaves s k k) (sym same) (both.left (subst g.T.Store.honest same h) k held.0);
      answered = λ h k held. tt;
    }
