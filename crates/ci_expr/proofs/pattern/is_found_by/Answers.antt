use Rattle.std.proofs.Common.{◌<◌, ◌∙◌, arith, string_bytes}
use Rattle.std.proofs.lemmas.List.Elements.{All-from_get_or}
use Rattle.regex_hir.specs.Meaning.{meaning}
use Rattle.ci_expr.proofs.FoundLemmas.{found}
use Rattle.ci_expr.proofs.pattern.is_found_by.Goals as goal

pub returns-clause-found : goal.returns-clause-found
returns-clause-found c =
    let pattern = c.args.pattern.now in
    let text = c.args.text.now in
    let (hir, names, reads, implements) = c.requires.automaton in
    c.finds.ensures.found (meaning hir) implements
    ∙ found pattern.insensitive (string_bytes pattern.source) hir names reads text (All-from_get_or (λ b. b < 256) text 0 (λ i _. omega (arith, c.type_inv.text i)))
