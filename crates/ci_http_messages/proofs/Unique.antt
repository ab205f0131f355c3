-- A text is one request at most.
use Rattle.std.proofs.Common.{◌≡◌, ℕ, List, [], refl, sym, ◌∙◌, ap, Option, Some, None}
use Rattle.httparse.proofs.GrammarLemmas.{request_unique}
use Rattle.ci_http_messages.specs.Prelude.{Opening, short, too_large, opened, opening_of, Head, head_parts, IsHeadOf, Reading, reading_after, IsReadingAt, IsReading}

pub one_head : (front : List ℕ) (a b : Option Head) → IsHeadOf front a → IsHeadOf front b → a ≡ b
one_head front None None x y = refl
one_head front None (Some k) x (h, reads, e) = absurd (x h reads)
one_head front (Some k) None (h, reads, e) y = absurd (y h reads)
one_head front (Some k) (Some l) (h, reads, e) (g, other, f) =
    ap Some (e ∙ ap head_parts (request_unique front h g [] [] reads other).0 ∙ sym f)

one_at : (o : Opening × List ℕ) (a b : Reading × List ℕ) → IsReadingAt o a → IsReadingAt o b → a ≡ b
one_at (short, after) a b x y = x ∙ sym y
one_at (too_large, after) a b x y = x ∙ sym y
one_at (opened front, after) a b (h, is, e) (k, it, f) = e ∙ ap (λ o. reading_after o after) (one_head front h k is it) ∙ sym f

pub one_reading : (bytes : List ℕ) (a b : Reading) (r s : List ℕ) → IsReading bytes a r → IsReading bytes b s → (a ≡ b) × (r ≡ s)
one_reading bytes a b r s x y =
    let same = one_at (opening_of bytes) (a, r) (b, s) x y in
    (λ i. (same i).0, λ i. (same i).1)
