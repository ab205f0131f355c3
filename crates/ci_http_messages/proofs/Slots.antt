-- The slots of a pattern take the segments that stand at them.
use Rattle.std.proofs.Common.{◌≡◌, ℕ, List, [], ◌∷◌, ◌++◌, true, false, cond, refl, sym, ap, ◌∙◌, arith, ◌==◌, ltb, ◌&&◌}
use Rattle.std.proofs.lemmas.Bool.{and_parts}
use Rattle.std.proofs.lemmas.Bool.Decides.{nat_tests}
use Rattle.ci_http_messages.specs.Prelude.{after, fits, tokens, Piece, fixed, slot, slot_texts, onto, segments}
use Rattle.ci_http_messages.proofs.Walks.{cases, same-byte, and-l, and-r}
use Rattle.ci_http_messages.proofs.Takes.{before, taken}
use Rattle.ci_http_messages.proofs.Splits.{plain_word, plain, rest_of, rest-onto, stray}

segments-before : (p : List ℕ) → segments p ≡ before p ∷ rest_of (segments p)
segments-before [] = refl
segments-before (b ∷ p) =
    cases (b == 47) (λ e. rw e refl) (λ e. rw e (ap (onto b) (segments-before p) ∙ ap (λ z. (b ∷ before p) ∷ z) (sym (rest-onto b p))))

nil-takes : (ps : List Piece) → taken (tokens ps) [] ≡ slot_texts ps []
nil-takes [] = refl
nil-takes (p ∷ ps) = refl

abbrev Takes : List Piece → Type 0
Takes ps = (q : List ℕ) → fits (tokens ps) (47 ∷ q) ≡ true → taken (tokens ps) (47 ∷ q) ≡ slot_texts ps (segments q)

end-takes : (ps : List Piece) (p : List ℕ) → fits (tokens ps) (after p) ≡ true → Takes ps → taken (tokens ps) (after p) ≡ slot_texts ps (rest_of (segments p))
end-takes ps [] h ih = nil-takes ps
end-takes ps (b ∷ p) h ih =
    cases (b == 47) (λ e. let f = same-byte b 47 e in rw f (ih p (rw f at h))) (λ e. rw (e, rest-onto b p) (end-takes ps p (rw e at h) ih))

word-takes : (w : List ℕ) (ps : List Piece) (p : List ℕ) → plain_word w ≡ true → fits (w ++ tokens ps) p ≡ true → Takes ps → taken (w ++ tokens ps) p ≡ slot_texts ps (rest_of (segments p))
word-takes [] ps [] a h ih = nil-takes ps
word-takes [] ps (b ∷ p) a h ih =
    cases (b == 47) (λ e. let f = same-byte b 47 e in rw f (ih p (rw f at h))) (λ e. let n = stray ps b p e in cc)
word-takes (x ∷ w) ps [] a h ih = cc
word-takes (x ∷ w) ps (b ∷ p) a h ih =
    let (k, r) = and_parts (ltb x 256 && cond (x == 47) false true) _ a in
    let n : (x == 256) ≡ false = grind (arith, nat_tests) in
    let h2 : (x == b && fits (w ++ tokens ps) p) ≡ true = rw n at h in
    let (xb, on) = and_parts (x == b) _ h2 in
    let nb : (b == 47) ≡ false = grind (arith, nat_tests) in
    rw (n, nb, rest-onto b p) (word-takes w ps p r on ih)

slot-takes : (name : List ℕ) (ps : List Piece) (p : List ℕ) → fits (256 ∷ tokens ps) p ≡ true → Takes ps → taken (256 ∷ tokens ps) p ≡ slot_texts (slot name ∷ ps) (segments p)
slot-takes name ps [] h ih = cc
slot-takes name ps (b ∷ p) h ih =
    cases (b == 47) (λ e. let k = rw e at h in cc) (
    λ e.
    let r : rest_of (segments (b ∷ p)) ≡ rest_of (segments p) = rw e (rest-onto b p) in
    ap (λ z. before (b ∷ p) ∷ z) (end-takes ps p (rw e at h) ih ∙ ap (slot_texts ps) (sym r)) ∙ ap (slot_texts (slot name ∷ ps)) (sym (segments-before (b ∷ p)))
    )

pub takes-pieces : (ps : List Piece) (p : List ℕ) → plain ps ≡ true → fits (tokens ps) (47 ∷ p) ≡ true → taken (tokens ps) (47 ∷ p) ≡ slot_texts ps (segments p)
takes-pieces [] p a h = refl
takes-pieces (fixed w ∷ ps) p a h =
    word-takes w ps p (and-l (plain_word w) _ a) h (λ q k. takes-pieces ps q (and-r (plain_word w) _ a) k) ∙ sym (ap (slot_texts (fixed w ∷ ps)) (segments-before p))
takes-pieces (slot name ∷ ps) p a h = slot-takes name ps p h (λ q k. takes-pieces ps q a k)
