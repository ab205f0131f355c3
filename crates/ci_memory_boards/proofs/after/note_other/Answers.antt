use Rattle.std.proofs.Common.{sym, subst, ◌∙◌}
use Rattle.std.proofs.lemmas.Option.{IfSome_then}
use Rattle.ci_machine_steps.specs.Prelude.{RowChange, changed}
use Rattle.ci_server_lookups.specs.Prelude.{IsRight}
use Rattle.ci_memory_boards.proofs.Stays.{stays, put_of}
use Rattle.ci_memory_boards.proofs.after.note_other.Goals as goal

pub returns-in-Some : goal.returns-in-Some
returns-in-Some c =
    IfSome_then c.note_attempt.result c.note_attempt.ensures (λ _ then k ascend right.
    subst (λ (x : RowChange). IsRight c.note_attempt.new.sheet (record k { state = changed x k.state })) (sym (put_of c.args.change.now c.in-Some.attempt.now (sym c.in-Some.ensures))) (then k ascend right))

pub returns-in-None : goal.returns-in-None
returns-in-None c k ascend right = stays c.args.sheet.now k right c.args.change.now (sym c.touches.ensures ∙ c.if-touches.false) (sym c.in-None.ensures)
