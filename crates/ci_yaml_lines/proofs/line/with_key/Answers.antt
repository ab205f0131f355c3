use Rattle.std.proofs.Common.{◌≡◌, ◌∷◌, [], ◌++◌}
use Rattle.ci_yaml_lines.specs.Prelude.{given_texts, entries_texts, GoOn, spans_of, given_spans, written, drop_blanks}
use Rattle.ci_yaml_lines.proofs.SpansLine.{if-ok, key-goes}
use Rattle.ci_yaml_lines.proofs.SpansOf.{exact-more}
use Rattle.ci_yaml_lines.proofs.line.with_key.Goals as goal

pub returns-clause-spans : goal.returns-clause-spans
returns-clause-spans c =
    let ts = entries_texts c.args.entries.items in
    let us = given_texts c.in_ok-value.value.given in
    let name = c.args.key.name in
    let rest = c.args.key.rest.now in
    if-ok c.entry_of.result (λ s. entries_texts s.entries.items ≡ ts ++ ((name ∷ []) ++ us)) (λ s. GoOn c.args.source (ts ++ name ∷ []) rest (entries_texts s.entries.items))
    (λ s e. key-goes c.args.source ts us (entries_texts s.entries.items) name rest c.in_ok-value.ensures.spans e) c.entry_of.ensures.spans

pub returns-clause-exact : goal.returns-clause-exact
returns-clause-exact c =
    let ts = entries_texts c.args.entries.items in
    let us = given_texts c.in_ok-value.value.given in
    let name = c.args.key.name in
    let given = given_spans c.args.source (written 58 c.args.key.rest.now).given (drop_blanks c.args.key.rest.now) in
    if-ok c.entry_of.result (λ s. entries_texts s.entries.items ≡ ts ++ ((name ∷ []) ++ us)) (λ s. spans_of (entries_texts s.entries.items) ≡ spans_of ts ++ (name.span ∷ given))
    (λ s e. exact-more ts (name ∷ us) (entries_texts s.entries.items) (name.span ∷ given) (λ i. name.span ∷ c.in_ok-value.ensures.exact i) e) c.entry_of.ensures.spans
