use Rattle.std.proofs.Common.{◌≡◌, ℕ, ◌+◌, ◌<◌, List, ◌++◌, length, length-append, ◌∙◌, sym, ap, subst, Option, Result, OnErr}
use Rattle.ci_http.specs.Serving.{WritesFront}
use Rattle.ci_http.proofs.serve.send.Goals as goal

same-text : {T E : Type 0} (r : Result T E) (old new : Option (List ℕ)) (a b : List ℕ) → a ≡ b → OnErr r (WritesFront old new a) → OnErr r (WritesFront old new b)
same-text r old new a b e h = subst (λ text. OnErr r (WritesFront old new text)) e h

less-room : {T E : Type 0} (r : Result T E) (room : ℕ) (head body text : List ℕ) → head ++ body ≡ text → OnErr r (room < length head + length body) → OnErr r (room < length text)
less-room r room head body text e h = subst (λ n. OnErr r (room < n)) (sym (length-append head body) ∙ ap length e) h

pub returns-clause-err : goal.returns-clause-err
returns-clause-err g c =
    let text = c.reply_bytes-text.result in
    same-text c.put_both.result _ _ _ _ (ap (λ head. head ++ text.body.now) c.as_slice.ensures.value ∙ c.reply_bytes-text.ensures.text) c.put_both.ensures.err

pub returns-clause-room : goal.returns-clause-room
returns-clause-room g c =
    let text = c.reply_bytes-text.result in
    less-room c.put_both.result _ _ _ _ (ap (λ head. head ++ text.body.now) c.as_slice.ensures.value ∙ c.reply_bytes-text.ensures.text) c.put_both.ensures.room
