use Rattle.ci_machine_statuses.proofs.outcome.outcome_of.Given as goal

-- the ledger is the one that the blank opens
abbrev pub ghosts-outcome_on : goal.ghosts-outcome_on
ghosts-outcome_on a = record { name = a.blank.name; parts = a.blank.parts }
