use Rattle.ci_machine_statuses.proofs.end.end_of.Given as goal

-- the ledger is the one that the blank opens
abbrev pub ghosts-end_on : goal.ghosts-end_on
ghosts-end_on a = record { name = a.blank.name; parts = a.blank.parts }
