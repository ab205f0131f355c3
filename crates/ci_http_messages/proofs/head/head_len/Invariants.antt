use Rattle.std.proofs.Common.{◌≡◌, ◌+◌, drop, option_map}
use Rattle.ci_http_messages.specs.Prelude.{head_len}
use Rattle.ci_http_messages.proofs.head.head_len.Given as goal

-- no empty line begins before this place
abbrev pub invariant-loop-at : goal.invariant-loop-at
invariant-loop-at l = head_len l.text ≡ option_map (λ n. l.at + n) (head_len (drop l.at l.text))
