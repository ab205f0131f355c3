use Rattle.std.proofs.Common.{◌≡◌, [], drop, map}
use Rattle.ci_cli_words.specs.Words.{pairs, variables_after}
use Rattle.ci_cli_words.proofs.variables.variables_of.Given as goal

abbrev pub invariant-loop-text : goal.invariant-loop-text
invariant-loop-text l =
    variables_after (pairs l.variables.items) (drop l.text-index (map (λ s. s.now) l.texts)) ≡ variables_after [] (map (λ s. s.now) l.texts)
