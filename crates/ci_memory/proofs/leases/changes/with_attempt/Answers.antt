use Rattle.std.proofs.Common.{sym, ◌∙◌}
use Rattle.std.proofs.lemmas.Bool.{false≢true}
use Rattle.ci_memory.proofs.Rights.{put_ended}
use Rattle.ci_memory.proofs.leases.changes.with_attempt.Goals as goal

pub returns-then-not-is_live : goal.returns-then-not-is_live
returns-then-not-is_live c = λ s right. put_ended c.args.memory c.args.attempt.now s (λ live. false≢true (sym c.if-not-is_live.true ∙ (c.is_live.ensures ∙ live))) right
