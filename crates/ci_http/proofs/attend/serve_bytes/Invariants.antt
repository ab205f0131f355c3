use Rattle.ci_http.proofs.attend.serve_bytes.Given as goal

-- the ledger of each link is the one that its blank opens
abbrev pub ghosts-serve_by-A-Ledger : goal.ghosts-serve_by-A-Ledger
ghosts-serve_by-A-Ledger g a = record { name = a.reads.name; parts = a.reads.parts }

abbrev pub ghosts-serve_by-B-Ledger : goal.ghosts-serve_by-B-Ledger
ghosts-serve_by-B-Ledger g a = record { name = a.writes.name; parts = a.writes.parts }
