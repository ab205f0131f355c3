use Rattle.std.proofs.Common.{ap}
use Rattle.std.proofs.lemmas.Result.{IfErr-weaker}
use Rattle.ci_server_lookups.specs.Prelude.{as_store_fault}
use Rattle.ci_server_lookups.proofs.Loading.{carried, handed_on}
use Rattle.ci_server_events.proofs.shows.loaded.Goals as goal

-- what is so of the facts and rows that were found is so of what is handed on
pub returns-clause-long : goal.returns-clause-long
returns-clause-long c = carried _ c.facts_and_rows.result c.or_store_fault.result c.or_store_fault.ensures.answer c.facts_and_rows.ensures.long

pub returns-clause-facts : goal.returns-clause-facts
returns-clause-facts c = carried _ c.facts_and_rows.result c.or_store_fault.result c.or_store_fault.ensures.answer c.facts_and_rows.ensures.facts

pub returns-clause-rows : goal.returns-clause-rows
returns-clause-rows c = carried _ c.facts_and_rows.result c.or_store_fault.result c.or_store_fault.ensures.answer c.facts_and_rows.ensures.rows

-- and so is what is said of why none was
pub returns-clause-fault : goal.returns-clause-fault
returns-clause-fault c =
    handed_on _ c.facts_and_rows.result c.or_store_fault.result c.or_store_fault.ensures.given c.or_store_fault.ensures.cause
    (IfErr-weaker c.facts_and_rows.result _ _ (λ fault only s board number needs sound are records. ap as_store_fault (only s board number needs sound are records)) c.facts_and_rows.ensures.fault)
