use Rattle.ci_tests.proofs.http.modes.read.Given as goal

abbrev pub ghosts-read_over : goal.ghosts-read_over
ghosts-read_over a = record { name = a.blank.name; parts = a.blank.parts }
