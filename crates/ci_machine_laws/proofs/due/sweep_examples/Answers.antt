use Rattle.ci_machine_laws.proofs.Prelude.{◌≡◌, List, refl}
use Rattle.ci_machine_steps.specs.Prelude.{Pending, Running, Canceled, BoardRow, Event, Answer, Swept, RowChange, State, applied, AreBoard, Step}
use Rattle.ci_board.specs.declared.facts.Status.TheVariants.{Failed}
use Rattle.ci_machine_laws.specs.Examples.{seed, swept}
use Rattle.ci_machine_laws.specs.SweepExamples.{overtaken, third_waits, swept_once, swept_twice}
use Rattle.ci_machine_laws.proofs.Computed.{computed}
use Rattle.ci_machine_laws.proofs.due.sweep_examples.Goals as goal

by_sweep : (s t : State) (before after : List BoardRow) (did : Swept) (changes : List RowChange) → AreBoard s before → AreBoard t after → (did, changes) ≡ swept s before 1120 → t ≡ applied changes s → Step s Event.Sweep 1120 seed (Answer.Swept did) t
by_sweep s t before after did changes are_before are_after happens state = record { before = before; are_before = are_before; changes = changes; happens = happens; state = state; after = after; are_after = are_after }

pub returns-clause-all : goal.returns-clause-all
returns-clause-all c =
    let first = third_waits Running Pending in
    let second = third_waits Failed Pending in
    let last = third_waits Failed Canceled in
    let before = computed overtaken first refl refl in
    let once = computed swept_once second refl refl in
    let twice = computed swept_twice last refl refl in (
      swept_once,
      seed,
      by_sweep overtaken swept_once first second _ _ before once refl refl,
      (
        swept_twice,
        seed,
        by_sweep swept_once swept_twice second last _ _ once twice refl refl,
        (swept_twice, seed, by_sweep swept_twice swept_twice last last _ _ twice twice refl refl, refl),
      ),
    )
