use Rattle.std.proofs.lemmas.Result.{IfOk-weaker}
use Rattle.ci_server_lookups.proofs.Loading.{carried}
use Rattle.ci_server_events.proofs.Settles.{of_slices}
use Rattle.ci_server_events.proofs.acts.outcome_among.Goals as goal

-- what becomes of the jobs of any state that has these records
pub returns-clause-outcome : goal.returns-clause-outcome
returns-clause-outcome c =
    IfOk-weaker c.or_store_fault.result _ _
    (λ o so s board pipeline sound are_board are. so s board pipeline sound are_board (of_slices c.as_slice.ensures.value c.as_slice-2.ensures.value c.as_slice-3.ensures.value c.as_slice-4.ensures.value are))
    (carried _ c.outcome_of.result c.or_store_fault.result c.or_store_fault.ensures.answer c.outcome_of.ensures.outcome)
