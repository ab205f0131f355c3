use Rattle.ci_machine_laws.proofs.Pieces.{goes_behind}
use Rattle.ci_machine_laws.proofs.laws.an_accepted_piece_goes_behind_its_trace.Goals as goal

pub returns : goal.returns
returns c = goes_behind
