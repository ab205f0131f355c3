use Rattle.std.proofs.Common.{◌∙◌, sym}
use Rattle.ci_cli_words.proofs.VariableTexts.{among_at}
use Rattle.ci_cli_words.proofs.variables.is_among.Goals as goal

pub returns-then-eq : goal.returns-then-eq
returns-then-eq c = sym (among_at c.args.variables.now c.loop-variable.variable-index _ c.args.name.now c.loop-variable-test.true (sym c.eq.ensures ∙ c.if-eq.true))
