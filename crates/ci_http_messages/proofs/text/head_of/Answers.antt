use Rattle.std.proofs.Common.{◌≡◌, ℕ, List, ap, ◌∙◌, ◌++◌, length, codes}
use Rattle.ci_http_messages.specs.Prelude.{status_line, type_text, type_line, length_line}
use Rattle.ci_http_messages.proofs.text.head_of.Goals as goal

-- one piece after another
chain : (x1 x2 x3 x4 x5 x6 x7 a b c d e f g : List ℕ) → x1 ≡ a → x2 ≡ x1 ++ b → x3 ≡ x2 ++ c → x4 ≡ x3 ++ d → x5 ≡ x4 ++ e → x6 ≡ x5 ++ f
    → x7 ≡ x6 ++ g → x7 ≡ a ++ b ++ c ++ d ++ e ++ f ++ g
chain x1 x2 x3 x4 x5 x6 x7 a b c d e f g p1 p2 p3 p4 p5 p6 p7 =
    p7 ∙ ap (λ l. l ++ g) (p6 ∙ ap (λ l. l ++ f) (p5 ∙ ap (λ l. l ++ e) (p4 ∙ ap (λ l. l ++ d) (p3 ∙ ap (λ l. l ++ c) (p2 ∙ ap (λ l. l ++ b) p1)))))

pub returns-clause-text : goal.returns-clause-text
returns-clause-text c =
    let r = c.args.reply.now in
    let old = c.put_allow.new.head.items in
    let first = c.put_status.ensures.items ∙ ap (λ l. l ++ status_line r.status) c.new-head.ensures in
    let kind = c.put_type.ensures.items ∙ ap (λ k. old ++ type_line k c.args.body.now) c.type_text.ensures.text ∙ ap (λ b. old ++ type_line (type_text r.body) b) c.requires in
    let size = c.put_length.ensures.items ∙ ap (λ b. c.put_type.new.head.items ++ length_line r.status (length b)) c.requires in
    chain _ _ _ _ _ _ _ _ _ _ _ _ _ (codes "Connection: close\r\n\r\n") first c.put_job_status.ensures.items c.put_range.ensures.items c.put_allow.ensures.items kind size c.put.ensures.items
