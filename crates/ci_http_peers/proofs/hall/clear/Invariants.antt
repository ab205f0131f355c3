use Rattle.std.proofs.Common.{◌≡◌, take}
use Rattle.ci_http_peers.specs.Turns.{cleared}
use Rattle.ci_http_peers.proofs.hall.clear.Given as goal

-- the places before this one are cleared
abbrev pub invariant-loop-place : goal.invariant-loop-place
invariant-loop-place g l = l.chairs ≡ cleared (take l.place l.peers) l.initial.chairs
