use Rattle.ci_machine_laws.proofs.SentAgain.{repeats, twice_reached}
use Rattle.ci_machine_laws.proofs.repeats.repeats_change_nothing.Goals as goal

pub returns : goal.returns
returns c = record { history = repeats; twice = twice_reached }
