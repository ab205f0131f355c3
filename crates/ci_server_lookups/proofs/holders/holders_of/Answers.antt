use Rattle.std.proofs.Common.{refl, ap, ◌∙◌}
use Rattle.std.proofs.lemmas.List.{take_all}
use Rattle.ci_server_lookups.proofs.Loading.{yields}
use Rattle.ci_server_lookups.proofs.Holds.{gathered_in, found_alike}
use Rattle.ci_server_lookups.proofs.holders.holders_of.Goals as goal

-- the holders of the groups of all jobs are found
pub returns : goal.returns
returns g c =
    yields refl c.loop-job.invariant
    (λ k before kept. found_alike k.state k.holders kept.are_indexes.held c.args.project c.args.jobs.now c.loop-job.found.items (before ∙ ap (gathered_in c.args.project k.holders) (take_all c.loop-job.job-index c.args.jobs.now c.loop-job-test.false)))
