use Rattle.std.proofs.Common.{◌≡◌, ◌∷◌, ◌++◌, [], List, ◌∙◌, ap, sym, subst, append_assoc, IfOk}
use Rattle.ci_yaml.specs.Prelude.{Text, texts_in, given_texts, frames_texts}
use Rattle.ci_yaml.proofs.members.enter_pair.Goals as goal

pub returns-clause-spans : goal.returns-clause-spans
returns-clause-spans c =
    let old : List Text = frames_texts c.args.frames.now.items in
    let name : List Text = c.args.name ∷ [] in
    let parts = sym (append_assoc (frames_texts c.settled.new.frames.items) (texts_in c.in_ok-value.value) name)
    ∙ ap (λ (ts : List Text). ts ++ name) (c.in_ok-value.ensures.spans ∙ ap (λ (ts : List Text). old ++ ts) c.or_null.ensures.spans)
    ∙ append_assoc old (given_texts c.args.awaiting) name in
    subst (λ (ts : List Text). IfOk c.join_pair.result (λ r. frames_texts c.join_pair.new.frames.items ≡ ts)) parts c.join_pair.ensures.spans
