use Rattle.ci_machine_statuses.proofs.creation.rows_of_creation.Given as goal

-- the ledger is the one that the blank opens
abbrev pub ghosts-rows_of_creation_on : goal.ghosts-rows_of_creation_on
ghosts-rows_of_creation_on a = record { name = a.blank.name; parts = a.blank.parts }
