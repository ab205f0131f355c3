use Rattle.std.proofs.Common.{◌∙◌}
use Rattle.ci_server_lookups.proofs.Loading.{goes_on}
use Rattle.ci_memory_queue.proofs.heads.first_of_pipeline.Goals as goal

-- of all jobs of the pipeline
pub returns : goal.returns
returns g c =
    goes_on g.T.Store.honest g.T.Store.holds g.T.Store.leaves _ _ _ _ c.jobs_of.result c.in_ok-jobs.jobs c.first_among.result c.in_ok-jobs.was c.jobs_of.ensures c.first_among.ensures
    (λ k found is are its kept. its kept c.args.pipeline (c.as_slice.ensures.value ∙ are))
