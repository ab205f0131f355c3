use Rattle.std.proofs.Common.{List, option_copied, subst, sym, ap, ◌∙◌}
use Rattle.ci_machine_steps.specs.Prelude.{RowChange}
use Rattle.ci_server_events.specs.Planning.{Settles}
use Rattle.ci_server_lookups.proofs.Loading.{implies}
use Rattle.ci_server_events.proofs.Leaving.{alone_settles}
use Rattle.ci_server_events.proofs.Settles.{still_moves, end_moves}
use Rattle.ci_server_events.proofs.ends.beside_changes.Goals as goal

-- an attempt ends, and what changes beside it is looked up
pub returns-in-Some : goal.returns-in-Some
returns-in-Some g c =
    implies c.beside_end.ensures
    (λ k beside is settles kept moves.
    let one = end_moves k.state c.args.changes.now c.in-Some.after.now moves (sym c.attempt_ended.ensures ∙ ap option_copied c.in-Some.is) in
    subst (λ (cs : List RowChange). Settles k cs beside) (sym one.2) (settles kept one.0 one.1))

-- none ends, and nothing differs
pub returns-in-None : goal.returns-in-None
returns-in-None g c = record {
  was_honest = λ h. h;
  kept = λ h k held. held;
  left = λ h k held. g.met.T.Store.held_is_left c.args.store.now k held;
  answered = λ h k held kept moves.
      alone_settles c.rows_stay.ensures c.indexes_stay.ensures k kept c.args.changes.now c.nothing.result c.nothing.ensures.rows c.nothing.ensures.indexes
      (still_moves k.state c.args.changes.now moves (sym c.attempt_ended.ensures ∙ ap option_copied c.in-None.is));
}
