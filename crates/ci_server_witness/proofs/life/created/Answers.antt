use Rattle.ci_server_witness.proofs.LifeLemmas.{created_at}
use Rattle.ci_server_witness.proofs.life.created.Goals as goal

pub returns-in-Ok-clause-created : goal.returns-in-Ok-clause-created
returns-in-Ok-clause-created c = created_at c.in_ok-conn.conn c.in-Ok.server c.in-Ok.ensures.made
