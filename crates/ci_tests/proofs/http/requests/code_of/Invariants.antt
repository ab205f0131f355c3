use Rattle.ci_tests.proofs.http.requests.code_of.Given as goal

abbrev pub ghosts-code_over : goal.ghosts-code_over
ghosts-code_over a = record { name = a.blank.name; parts = a.blank.parts }
