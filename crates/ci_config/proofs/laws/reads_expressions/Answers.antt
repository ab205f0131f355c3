use Rattle.ci_config.proofs.laws.reads_expressions.Goals as goal

pub returns : goal.returns
returns c = c.computes_the_meaning.ensures
