use Rattle.ci_server_witness.proofs.LifeLemmas.{leased}
use Rattle.ci_server_witness.specs.Life.{until_grant, with_attempt}
use Rattle.ci_server_witness.proofs.life.granted_and_reopened.Goals as goal

pub returns-in_err-server-clause-leased : goal.returns-in_err-server-clause-leased
returns-in_err-server-clause-leased c = leased

pub returns-clause-leased : goal.returns-clause-leased
returns-clause-leased c = leased

pub returns-clause-stopped : goal.returns-clause-stopped
returns-clause-stopped c = c.reopened.ensures.stopped _ _ c.in_ok-server.ensures.granted

pub returns-clause-lives : goal.returns-clause-lives
returns-clause-lives c = c.reopened.ensures.reopened until_grant with_attempt c.in_ok-server.ensures.granted
