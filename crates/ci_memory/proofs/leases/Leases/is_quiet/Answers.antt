use Rattle.std.proofs.Common.{◌≡◌, ◌<◌, ltb-true, subst, ℕ, None}
use Rattle.ci_machine_steps.specs.Prelude.{first_due, leases}
use Rattle.ci_memory.specs.Quiet.{IsQuiet}
use Rattle.ci_memory.proofs.Quiets.{none_due}
use Rattle.ci_memory.proofs.Rights.{at_some}
use Rattle.ci_memory.proofs.leases.Leases.is_quiet.Goals as goal

pub returns-in-Some : goal.returns-in-Some
returns-in-Some c = λ early k right.
    let q = c.in-Some.quiet in
    let now = c.seconds.result in
    let before : now < q.until = ltb-true now q.until early in
    subst (λ (n : ℕ). first_due (leases k.state) n ≡ None) c.seconds.ensures.is
    (none_due q now (leases k.state) before (at_some (λ p. IsQuiet p k.state) c.args.self.now.quiet q c.in-Some.is right.quiet))
