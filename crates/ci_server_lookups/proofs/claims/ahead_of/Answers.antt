use Rattle.std.proofs.Common.{refl, ap, ◌∙◌}
use Rattle.std.proofs.lemmas.List.{take_all}
use Rattle.ci_machine_steps.specs.Prelude.{groups_in}
use Rattle.ci_server_lookups.proofs.Loading.{yields, both_yield}
use Rattle.ci_server_lookups.proofs.Claiming.{ahead_in, ahead_more, ahead_alike}
use Rattle.ci_server_lookups.proofs.claims.ahead_of.Goals as goal

-- with one more job
pub loop-job-preserved : goal.loop-job-preserved
loop-job-preserved g c =
    both_yield refl c.in_ok-push_ahead.was c.loop-job.invariant c.push_ahead.ensures
    (λ k before its kept.
    ahead_more (groups_in k.state k.board) c.args.project c.args.pipeline c.args.jobs.now c.loop-job.job-index c.job-item.result c.loop-job.ahead.items c.push_ahead.new.ahead.items c.loop-job-test.true c.job-item.is (before kept) (its kept))

-- of all jobs
pub returns : goal.returns
returns g c =
    yields refl c.loop-job.invariant
    (λ k before kept.
    ahead_alike (groups_in k.state k.board) c.args.project c.args.pipeline c.args.jobs.now c.loop-job.ahead.items
    (before kept ∙ ap (ahead_in (groups_in k.state k.board) c.args.project c.args.pipeline) (take_all c.loop-job.job-index c.args.jobs.now c.loop-job-test.false)))
