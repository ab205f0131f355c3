-- A prune depends on no moment and no seed.
use Rattle.std.proofs.Common.{inl, inr, ⊎_elim, ℕ, Result, Ok, Err}
use Rattle.ci_machine_steps.specs.Prelude.{Answer, Reply, Event, PruneOne, Seed, State, Step}
use Rattle.ci_server_lookups.specs.Prelude.{StoreFault, Memory, Broken}
use Rattle.ci_server.specs.Prelude.{Performs}

module _ (before then now : ℕ) (old seed : Seed) (s : State) where
  steps_alike : (t : State) (b : Answer) → Step s (Event.Request (PruneOne before)) then old b t → Step s (Event.Request (PruneOne before)) now seed b t
  steps_alike t (Answer.Reply reply) step = record {
    before = step.before;
    are_before = step.are_before;
    changes = step.changes;
    happens = step.happens;
    state = step.state;
    after = step.after;
    are_after = step.are_after;
  }
  steps_alike t (Answer.Swept swept) step = absurd step.happens

  -- what it did at one moment and with one seed it does at each and with each
  pub performs_alike : {T : Type 0} (holds : T → State → Type 0) (leaves : T → State → State → Type 0) (new : T) (r : Result Reply StoreFault)
      → Performs holds leaves Answer.Reply (Event.Request (PruneOne before), then, old) s new r → Performs holds leaves Answer.Reply (Event.Request (PruneOne before), now, seed) s new r
  performs_alike holds leaves new (Ok reply) p = (p.0, steps_alike p.0 (Answer.Reply reply) p.1, p.2)
  performs_alike holds leaves new (Err Memory) p = p
  performs_alike holds leaves new (Err Broken) p = ⊎_elim (λ q. inl q) (λ q. inr (q.0, q.1, steps_alike q.1 q.0 q.2, q.3)) p
