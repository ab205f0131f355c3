use Rattle.sqlite.proofs.StateLemmas.{survives_weaker}
use Rattle.sqlite.proofs.Callers.{never_commits}
use Rattle.ci_store.proofs.Selects.{shown_same}
use Rattle.ci_store.proofs.read.rows.Goals as goal

pub returns-in_err-query_all-clause-survives : goal.returns-in_err-query_all-clause-survives
returns-in_err-query_all-clause-survives g c clean plain = survives_weaker _ _ _ _ (λ _ db. never_commits _ _ _ db plain) c.query_all.ensures.survives

pub returns-clause-survives : goal.returns-clause-survives
returns-clause-survives g c clean plain = survives_weaker _ _ _ _ (λ _ db. never_commits _ _ _ db plain) c.query_all.ensures.survives

pub returns-clause-same : goal.returns-clause-same
returns-clause-same g c clean plain = shown_same _ _ _ _ _ plain (c.in_ok-query_all.ensures.ok clean)
