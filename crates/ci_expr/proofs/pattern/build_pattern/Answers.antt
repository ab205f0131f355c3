use Rattle.std.proofs.Common.{rules}
use Rattle.ci_expr.proofs.FoundLemmas.{built-automaton, built-pattern, built-refused, no-pattern}
use Rattle.ci_expr.proofs.pattern.build_pattern.Goals as goal

pub returns-in-Ok-clause-automaton : goal.returns-in-Ok-clause-automaton
returns-in-Ok-clause-automaton c = built-automaton _ _ _ _ _ (search rules) c.in-Ok.ensures.ok _ c.automaton.ensures.implements

pub returns-in-Ok-clause-pattern : goal.returns-in-Ok-clause-pattern
returns-in-Ok-clause-pattern c = built-pattern _ c.args.insensitive c.args.source.now _ _ (search rules) c.in-Ok.ensures.ok _

pub returns-in-Ok-clause-refused : goal.returns-in-Ok-clause-refused
returns-in-Ok-clause-refused c = built-refused _ c.args.insensitive c.args.source.now _ _ (search rules) c.in-Ok.ensures.ok _ c.automaton.ensures.refused

pub returns-in-Err-2-clause-refused : goal.returns-in-Err-2-clause-refused
returns-in-Err-2-clause-refused c = no-pattern _ c.args.insensitive c.args.source.now _ (search rules) c.in-Err-2.ensures.err (search rules)
