use Rattle.std.proofs.Common.{◌≡◌, ◌∙◌, false, List, [], ◌∷◌, ◌++◌, length, map, get_or, Result, sym, ap, append_assoc, rules, vec_len, ◌==◌, remove}
use Rattle.std.proofs.lemmas.Bool.{eqb-true}
use Rattle.std.proofs.lemmas.List.{append-nil, nil_from_length}
use Rattle.ci_yaml.specs.Prelude.{Code, entry_view, entry_texts, entries_texts, State, run, ◌>>=◌, state_view, state_texts}
use Rattle.ci_yaml_lines.specs.declared.entry.Entry.{Entry}
use Rattle.ci_yaml.proofs.entries.enter_all.Goals as goal

first-parts : (old new : List Entry) (e : Entry) → (length old == 0) ≡ false → e ≡ get_or old 0 e → new ≡ remove old 0 → old ≡ e ∷ new
first-parts [] new e some is rest = absurd cc
first-parts (x ∷ old) new e some is rest = ap (λ (y : Entry). y ∷ old) (sym is) ∙ ap (λ (es : List Entry). e ∷ es) (sym rest)

pub all-preserved : goal.all-preserved
all-preserved c =
    let old = c.all.entries.items in
    let new = c.remove-entry.new.self.items in
    let e = c.remove-entry.result in
    let len : vec_len c.all.entries ≡ length old = search rules in
    let parts : old ≡ e ∷ new = first-parts old new e (ap (λ n. n == 0) (sym len) ∙ sym c.all-test.ensures) c.remove-entry.ensures.value c.remove-entry.ensures.items in
    record {
      value =
          sym (ap (λ (es : List Entry). run (state_view c.all.progress) (map entry_view es)) parts ∙ ap (λ (r : Result State Code). r >>= λ t. run t (map entry_view new)) c.in_ok-progress.ensures.value)
          ∙ c.all.invariant.value;
      spans =
          ap (λ ts. ts ++ entries_texts new) c.in_ok-progress.ensures.spans ∙ append_assoc (state_texts c.all.progress) (entry_texts e) (entries_texts new)
          ∙ ap (λ (es : List Entry). state_texts c.all.progress ++ entries_texts es) (sym parts) ∙ c.all.invariant.spans;
    }

pub returns : goal.returns
returns c =
    let len : vec_len c.all.entries ≡ length c.all.entries.items = search rules in
    let none : c.all.entries.items ≡ [] = nil_from_length c.all.entries.items (eqb-true (length c.all.entries.items) 0 (ap (λ n. n == 0) (sym len) ∙ sym c.all-test.ensures)) in
    record {
      value = sym c.all.invariant.value ∙ ap (λ (es : List Entry). run (state_view c.all.progress) (map entry_view es)) none;
      spans = sym (append-nil (state_texts c.all.progress)) ∙ ap (λ (es : List Entry). state_texts c.all.progress ++ entries_texts es) (sym none) ∙ c.all.invariant.spans;
    }
