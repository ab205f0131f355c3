use Rattle.std.proofs.Common.{sym, subst, ◌∙◌}
use Rattle.ci_machine_steps.specs.Prelude.{claims_ahead, holders, groups_in}
use Rattle.ci_server_lookups.specs.Prelude.{HoldAlike, FreeAlike}
use Rattle.ci_server_lookups.proofs.Loading.{both_yield, joined}
use Rattle.ci_server_lookups.proofs.records.whole_of.Goals as goal

-- what was looked up one after the other is the pipeline with its records, its holders and who goes first
pub returns : goal.returns
returns g c =
    let pipeline = c.in-Some.pipeline in
    both_yield c.in_ok-held.was c.in_ok-ahead.was (joined c.in_ok-pipeline.was (joined c.in_ok-records.was c.records_of.ensures c.pipeline.ensures) c.holders_of.ensures) c.ahead_of.ensures
    (λ k known ahead kept. record {
      there = sym known.0.1 ∙ c.in-Some.is;
      records = known.0.0 kept;
      held = subst (HoldAlike c.in_ok-held.held.items (holders k.state) pipeline.project) c.as_slice-jobs.ensures.value (known.1 kept);
      ahead = subst (FreeAlike c.in_ok-ahead.ahead.items (claims_ahead (groups_in k.state k.board) c.args.number) pipeline.project) c.as_slice-jobs.ensures.value (ahead kept);
    })
