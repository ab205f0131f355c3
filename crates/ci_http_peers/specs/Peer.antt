-- What a peer is at, and until when.
use Rattle.std.specs.Prelude.{ℕ, Bool, true, false, ◌+◌, min}
use Rattle.ci_http_peers.specs.declared.peer.Stage.{Stage}
use Rattle.ci_http_peers.specs.declared.peer.Among.{Among}

-- when a time ends that begins now, in milliseconds: at the end of the clock at the latest
abbrev pub until : ℕ → ℕ → ℕ
until now span = min (now + span) 18446744073709551615

-- a peer at this stage is one of these
abbrev pub is_among : Among → Stage → Bool
is_among Among.All s = true
is_among Among.Reading Stage.Reading = true
is_among Among.Reading (Stage.Writing bytes) = false
is_among Among.Reading Stage.Ending = false
is_among Among.Writing Stage.Reading = false
is_among Among.Writing (Stage.Writing bytes) = true
is_among Among.Writing Stage.Ending = false
