use Rattle.std.proofs.Common.{sym, subst}
use Rattle.ci_machine_steps.specs.Prelude.{cleared, put_rows, State, applied}
use Rattle.ci_server_lookups.proofs.Changes.{state_stays}
use Rattle.ci_memory.specs.Quiet.{AreRightOf}
use Rattle.ci_memory.proofs.leases.Leases.after.Goals as goal

pub returns : goal.returns
returns c = λ k jobs rows indexes right.
    let less = cleared jobs k in
    let changed = record less { state = applied c.args.changes.now k.state; board = put_rows rows less.board } in
    subst (λ (s : State). AreRightOf c.followed.result s) (sym (state_stays indexes changed)) (c.followed.ensures k.state right)
