use Rattle.ci_machine_statuses.proofs.load.graph_for.Given as goal

-- the ledger is the one that the blank opens
abbrev pub ghosts-graph_by : goal.ghosts-graph_by
ghosts-graph_by a = record { name = a.blank.name; parts = a.blank.parts }
