use Rattle.ci_tests.proofs.http.requests.failed_calls_are_not_tried_again.Given as goal

abbrev pub ghosts-read_once : goal.ghosts-read_once
ghosts-read_once g a = record { name = a.blank.name; parts = a.blank.parts }

abbrev pub ghosts-written_once : goal.ghosts-written_once
ghosts-written_once g a = record { name = a.blank.name; parts = a.blank.parts }
