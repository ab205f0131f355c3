use Rattle.std.proofs.Common.{◌≡◌, length, arith}
use Rattle.ci_server_events.proofs.Acting.{job_pushed, all_pushed}
use Rattle.ci_server_events.proofs.acts.jobs_at.Goals as goal

pub loop-i-preserved : goal.loop-i-preserved
loop-i-preserved c = λ other.
    job_pushed c.args.jobs.now c.args.places.now c.loop-i.i c.index-jobs-place.result c.in_ok-clone.field-0 c.loop-i.chosen.items c.push.new.self.items other (omega arith)
    (c.requires c.loop-i.i 0 (omega arith)) c.index-jobs-place.is c.in_ok-clone.ensures.cases (c.loop-i.invariant other) c.in_ok-push.ensures.items

pub returns : goal.returns
returns c = λ other.
    let done : c.loop-i.i ≡ length c.args.places.now = omega arith in
    all_pushed c.args.jobs.now c.args.places.now c.loop-i.i c.loop-i.chosen.items other done (c.loop-i.invariant other)
