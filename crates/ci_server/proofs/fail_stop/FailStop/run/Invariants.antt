use Rattle.std.proofs.Common.{◌≡◌, ◌≤◌, take, length, vec_len, vec_capacity}
use Rattle.ci_server.specs.Prelude.{Holds, Leaves, HandlesEachBy}
use Rattle.ci_server.proofs.fail_stop.FailStop.run.Given as goal

-- the calls so far were handled one after the other, with the answers so far, and there is room for the others
abbrev pub invariant-loop-call : goal.invariant-loop-call
invariant-loop-call g l =
    let honest = g.T.Store.honest in
    record {
      was_honest : honest l.self.store → honest l.fn.self.store;
      each : HandlesEachBy honest (Holds g.T.Store.holds) (Leaves g.T.Store.leaves) l.fn.self (take l.call-index l.calls) l.answers.items l.self;
      count : vec_len l.answers ≡ l.call-index;
      room : length l.calls ≤ vec_capacity l.answers;
    }
