use Rattle.ci_cli_words.proofs.wrong.wrong_plan.Goals as goal

pub returns : goal.returns
returns c = c.wrong_variable.ensures _
