use Rattle.std.proofs.Common.{◌≡◌, ◌∙◌, ap, sym, subst, map, [], ◌∷◌, ◌++◌, Option, Some, None, IfOk, IfSome, option_map}
use Rattle.ci_yaml_lines.specs.Prelude.{keyed, written, entry_view, keyed_view, least_keyed, written_view, LeastParsed, parsed_view, with_entries, Stand, given_texts}
use Rattle.ci_yaml_lines.specs.Prelude.{entries_texts, GoOn, spans_of, scalar_span, given_spans, keyed_spans, drop_blanks, quoted, bytes_of}
use Rattle.ci_yaml_lines.proofs.Parsed.{key-parsed, bare-parsed}
use Rattle.ci_yaml_lines.specs.declared.line.Keyed.{Keyed}
use Rattle.ci_yaml_lines.proofs.SpansLine.{if-ok, keyed-goes, value-goes}
use Rattle.ci_yaml_lines.proofs.SpansOf.{exact-keyed, exact-bare, exact-more}
use Rattle.ci_yaml_lines.proofs.line.keyed_or_bare.Goals as goal

pub returns-in-Some : goal.returns-in-Some
returns-in-Some c =
    let at = c.args.source in
    let ts = entries_texts c.args.entries.items in
    let text = c.args.text.now in
    let k = c.in-Some.key in
    let is : Some (keyed_view k) ≡ option_map least_keyed (keyed text) = sym (ap (option_map keyed_view) c.in-Some.is) ∙ c.in_ok-key.ensures.value in
    let key : Stand at text (k.name ∷ []) k.rest.now = subst (λ (o : Option Keyed). IfSome o (λ x. Stand at text (x.name ∷ []) x.rest.now)) c.in-Some.is c.in_ok-key.ensures.spans in
    let span : k.name.span ≡ scalar_span at (quoted text) (bytes_of k.name) text =
    subst (λ (o : Option Keyed). IfSome o (λ x. x.name.span ≡ scalar_span at (quoted text) (bytes_of x.name) text)) c.in-Some.is c.in_ok-key.ensures.exact in
    record {
      value = subst (λ (x : LeastParsed). IfOk c.with_key.result (λ s. parsed_view s ≡ with_entries (map entry_view c.args.entries.items) x)) (key-parsed c.args.column text (keyed_view k) (keyed text) is) c.with_key.ensures.value;
      spans = if-ok c.with_key.result (λ s. GoOn at (ts ++ k.name ∷ []) k.rest.now (entries_texts s.entries.items)) (λ s. GoOn at ts text (entries_texts s.entries.items))
          (λ s goes. keyed-goes at ts (entries_texts s.entries.items) k.name text k.rest.now key goes) c.with_key.ensures.spans;
      exact = if-ok c.with_key.result (λ s. spans_of (entries_texts s.entries.items) ≡ spans_of ts ++ (k.name.span ∷ given_spans at (written 58 k.rest.now).given (drop_blanks k.rest.now)))
          (λ s. spans_of (entries_texts s.entries.items) ≡ spans_of ts ++ keyed_spans at (keyed text) text) (λ s e. e ∙ ap (λ x. spans_of ts ++ x) (exact-keyed at text k (keyed text) is span)) c.with_key.ensures.exact;
    }

pub returns-in_ok-value-in-None : goal.returns-in_ok-value-in-None
returns-in_ok-value-in-None c =
    let at = c.args.source in
    let ts = entries_texts c.args.entries.items in
    let w = c.in_ok-value-in-None.value in
    let text = c.args.text.now in
    let is : None ≡ option_map least_keyed (keyed text) = sym (ap (option_map keyed_view) c.in-None.is) ∙ c.in_ok-key.ensures.value in
    record {
      value = subst (λ (x : LeastParsed). IfOk c.with_value.result (λ s. parsed_view s ≡ with_entries (map entry_view c.args.entries.items) x))
          (bare-parsed c.args.column text (written_view w) (keyed text) is c.in_ok-value-in-None.ensures.value) c.with_value.ensures.value;
      spans = if-ok c.with_value.result (λ s. entries_texts s.entries.items ≡ ts ++ given_texts w.given) (λ s. GoOn at ts text (entries_texts s.entries.items))
          (λ s e. value-goes at ts (given_texts w.given) (entries_texts s.entries.items) text c.in_ok-value-in-None.ensures.spans e) c.with_value.ensures.spans;
      exact = if-ok c.with_value.result (λ s. entries_texts s.entries.items ≡ ts ++ given_texts w.given) (λ s. spans_of (entries_texts s.entries.items) ≡ spans_of ts ++ keyed_spans at (keyed text) text)
          (λ s e. exact-more ts (given_texts w.given) (entries_texts s.entries.items) (keyed_spans at (keyed text) text) (c.in_ok-value-in-None.ensures.exact ∙ exact-bare at text (keyed text) is) e) c.with_value.ensures.spans;
    }
