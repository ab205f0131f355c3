use Rattle.ci_http.specs.Sweeping.{Clears}
use Rattle.ci_http.proofs.sweep.sweep_all.Given as goal

-- each sweep so far did something, and the log was told it
abbrev pub invariant-loop : goal.invariant-loop
invariant-loop g l = Clears g.S.Store g.L.Log.tells l.moment l.fn.server l.fn.log l.counter l.server l.log
