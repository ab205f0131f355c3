use Rattle.ci_machine_pipelines.proofs.Laying.{creates, creates_none, creates_fault}
use Rattle.ci_machine_pipelines.proofs.laws.laid_out_creates.Goals as goal

pub returns-clause-made : goal.returns-clause-made
returns-clause-made c = λ s text new vs now made plan laid shows. creates s text new vs now made plan laid shows

pub returns-clause-lacking : goal.returns-clause-lacking
returns-clause-lacking c = λ s text new vs now plan laid is. creates_none s text new vs now plan laid is

pub returns-clause-faulty : goal.returns-clause-faulty
returns-clause-faulty c = λ s text new vs now detail plan laid is. creates_fault s text new vs now detail plan laid is
