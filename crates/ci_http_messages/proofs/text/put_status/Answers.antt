use Rattle.std.proofs.Common.{◌≡◌, ℕ, List, [], ◌∷◌, ◌++◌, ap, ◌∙◌, append_assoc, codes}
use Rattle.http.specs.StatusCode.{code_digits}
use Rattle.ci_http_messages.specs.Prelude.{number_of, reason_of, status_line}
use Rattle.ci_http_messages.proofs.text.put_status.Goals as goal

-- one piece after another
chain : (x1 x2 x3 x4 x5 old a b c d e : List ℕ) → x1 ≡ old ++ a → x2 ≡ x1 ++ b → x3 ≡ x2 ++ c → x4 ≡ x3 ++ d → x5 ≡ x4 ++ e
    → x5 ≡ old ++ (a ++ b ++ c ++ d ++ e)
chain x1 x2 x3 x4 x5 old a b c d e p1 p2 p3 p4 p5 =
    p5 ∙ ap (λ l. l ++ e) (p4 ∙ ap (λ l. l ++ d) (p3 ∙ ap (λ l. l ++ c) (p2 ∙ ap (λ l. l ++ b) p1))) ∙ simp append_assoc

pub returns-clause-items : goal.returns-clause-items
unfolding status_line
returns-clause-items c =
    let s = c.args.status in
    let digits = c.put-2.ensures.items ∙ ap (λ t. c.put.new.head.items ++ t) (c.as_bytes.ensures.value ∙ c.as_str.ensures ∙ ap code_digits c.status_code.ensures) in
    let reason = c.put-4.ensures.items ∙ ap (λ t. c.put-3.new.head.items ++ t) (c.as_bytes-2.ensures.value ∙ c.reason_of.ensures.text) in
    chain _ _ _ _ _ c.args.head.now.items (codes "HTTP/1.1 ") (code_digits (number_of s)) (codes " ") (reason_of s) (13 ∷ 10 ∷ []) c.put.ensures.items digits c.put-3.ensures.items reason c.put-5.ensures.items
