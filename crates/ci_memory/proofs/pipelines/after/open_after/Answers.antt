use Rattle.std.proofs.Common.{subst}
use Rattle.ci_machine_steps.specs.Prelude.{Kept, cleared, put_rows, applied}
use Rattle.ci_memory.specs.Alone.{IsRight}
use Rattle.ci_memory.proofs.Covers.{covers, accounts}
use Rattle.ci_memory.proofs.pipelines.after.open_after.Goals as goal

-- changes of records first; the rows are of no account
pub returns : goal.returns
returns c = λ k jobs rows right.
    let known = c.in_ok-known.known in
    let changes = c.args.changes.now in
    let clear = cleared jobs k in
    let put : Kept = record clear { state = applied changes k.state; board = put_rows rows clear.board } in
    c.after_indexes.ensures put (accounts known put (covers known _ (c.in_ok-known.ensures k (subst (λ o. IsRight o k) c.in_ok-remembered.was right))))
