use Rattle.ci_config.specs.Prelude.{config_view}
use Rattle.ci_explain.proofs.turn.first_fault.Goals as goal

pub returns-in-Ok : goal.returns-in-Ok
returns-in-Ok c = (config_view c.in-Ok._config, c.in-Ok.ensures.answer)
