use Rattle.ci_tests.proofs.http.requests.parts_of_a_request.Given as goal

abbrev pub ghosts-read_parts : goal.ghosts-read_parts
ghosts-read_parts g a = record { name = a.blank.name; parts = a.blank.parts }
