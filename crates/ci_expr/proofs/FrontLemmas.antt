-- A token that begins a text is read, and so is what stops there.
use Rattle.std.proofs.Common.{◌≡◌, ℕ, suc, ◌+◌, true, false, List, [], ◌∷◌, ◌++◌, length, take, drop, get_or, Option, Some, None, option_map, Ok, Err, refl, sym, ◌∙◌, ap, subst}
use Rattle.std.proofs.Common.{arith, append_assoc, ◌==◌, ⊎_elim}
use Rattle.std.proofs.lemmas.Bool.{eqb-true, eq-eqb, or_cases, cond-true, cond-false}
use Rattle.std.proofs.lemmas.List.{length-append, take-append-drop, get_or-append-add}
use Rattle.ci_expr.specs.Prelude.{ExprCode, X2, X3, Kind, Name, Text, Null, word_length, until, text_by, pattern_by, body_length, lexeme, is_blank, starts_word, is_word, AreWord}
use Rattle.ci_expr.specs.Prelude.{EndsWord, Lacks, IsMark, IsBody, IsFlag, Spells, StaysOpen, quote, pattern, BeginsNone, Stops, unclosed, wrong}
use Rattle.ci_expr.specs.declared.token.Kind.TheVariants.{Pattern}
use Rattle.ci_expr.proofs.Fronts.{Front, Fits, IsFrontFault, start-word, IsEnd, body-is, body-length-at, front-fits}

abbrev front_of : Kind → ℕ → Front
front_of k n = Ok (k, n)

-- ---- names
word-length-at : (bs rest : List ℕ) → AreWord bs → EndsWord rest → word_length (bs ++ rest) ≡ length bs
word-length-at [] [] all ends = refl
word-length-at [] (b ∷ rest) all ends = cond-false (is_word b) (suc (word_length rest)) 0 ends
word-length-at (b ∷ bs) rest all ends = cond-true (is_word b) (suc (word_length (bs ++ rest))) 0 all.0 ∙ ap suc (word-length-at bs rest all.1 ends)

name-read : (b : ℕ) (bs rest : List ℕ) → starts_word b ≡ true → AreWord bs → EndsWord rest → lexeme ((36 ∷ b ∷ bs) ++ rest) ≡ Ok (Name, suc (suc (length bs)))
name-read b bs rest start all ends =
    cond-true (starts_word b) (front_of Name (suc (word_length (b ∷ (bs ++ rest))))) (Err X2) start
    ∙ ap (λ n. front_of Name (suc n)) (word-length-at (b ∷ bs) rest (start-word b start, all) ends)

-- ---- texts
until-at : (q : ℕ) (body rest : List ℕ) → Lacks q body → until q ((body ++ q ∷ []) ++ rest) ≡ Some (length body)
until-at q [] rest lacks = cond-true (q == q) (Some 0) (option_map suc (until q rest)) (eq-eqb q q refl)
until-at q (b ∷ body) rest lacks = cond-false (b == q) (Some 0) (option_map suc (until q ((body ++ q ∷ []) ++ rest))) lacks.0 ∙ ap (option_map suc) (until-at q body rest lacks.1)

until-none : (q : ℕ) (bs : List ℕ) → Lacks q bs → until q bs ≡ None
until-none q [] lacks = refl
until-none q (b ∷ bs) lacks = cond-false (b == q) (Some 0) (option_map suc (until q bs)) lacks.0 ∙ ap (option_map suc) (until-none q bs lacks.1)

quoted : (q : ℕ) (bs : List ℕ) → IsMark q → lexeme (q ∷ bs) ≡ text_by (until q bs)
quoted q bs mark = ⊎_elim (at 34 refl) (at 39 refl) (or_cases (q == 34) (q == 39) mark)
  where
    at : (m : ℕ) → lexeme (m ∷ bs) ≡ text_by (until m bs) → (q == m) ≡ true → lexeme (q ∷ bs) ≡ text_by (until q bs)
    at m h e = subst (λ x. lexeme (x ∷ bs) ≡ text_by (until x bs)) (sym (eqb-true q m e)) h

text-read : (q : ℕ) (body rest : List ℕ) → IsMark q → Lacks q body → lexeme ((q ∷ (body ++ q ∷ [])) ++ rest) ≡ Ok (Text, length (q ∷ (body ++ q ∷ [])))
text-read q body rest mark lacks =
    let size : suc (suc (length body)) ≡ length (q ∷ (body ++ q ∷ [])) = omega (arith, length-append body (q ∷ [])) in
    quoted q ((body ++ q ∷ []) ++ rest) mark ∙ ap text_by (until-at q body rest lacks) ∙ ap (front_of Text) size

-- ---- patterns
ends-word : (rest : List ℕ) → EndsWord rest → is_word (get_or rest 0 0) ≡ false
ends-word [] h = refl
ends-word (b ∷ rest) h = h

no-flag : (rest : List ℕ) → IsFlag [] rest → (get_or rest 0 0 == 105) ≡ false
no-flag [] h = refl
no-flag (b ∷ rest) h = h

pattern-read : (body flag rest : List ℕ) → IsBody body → IsFlag flag rest → lexeme ((47 ∷ (body ++ 47 ∷ flag)) ++ rest) ≡ Ok (Pattern, length (47 ∷ (body ++ 47 ∷ flag)))
pattern-read body [] rest is h =
    let size : suc (suc (length body)) ≡ length (47 ∷ (body ++ 47 ∷ [])) = omega (arith, length-append body (47 ∷ [])) in
    let next : get_or (body ++ 47 ∷ rest) (length body + 1) 0 ≡ get_or rest 0 0 = get_or-append-add body (47 ∷ rest) 1 0 in
    rw (append_assoc body (47 ∷ []) rest, body-length-at body rest is, next, no-flag rest h) (ap (front_of Pattern) size)
pattern-read body (f ∷ []) rest is h =
    let size : suc (suc (suc (length body))) ≡ length (47 ∷ (body ++ 47 ∷ f ∷ [])) = omega (arith, length-append body (47 ∷ f ∷ [])) in
    let next : get_or (body ++ 47 ∷ f ∷ rest) (length body + 1) 0 ≡ f = get_or-append-add body (47 ∷ f ∷ rest) 1 0 in
    let later : get_or (body ++ 47 ∷ f ∷ rest) (length body + 2) 0 ≡ get_or rest 0 0 = get_or-append-add body (47 ∷ f ∷ rest) 2 0 in
    rw (append_assoc body (47 ∷ f ∷ []) rest, body-length-at body (f ∷ rest) is, next ∙ h.0, later, ends-word rest h.1) (ap (front_of Pattern) size)
pattern-read body (f ∷ g ∷ fs) rest is h = absurd h

-- ---- a token at the front is read
abbrev IsReadAs : Kind → List ℕ → List ℕ → Type 0
IsReadAs k rest s = lexeme (s ++ rest) ≡ Ok (k, length s)

pub spelled-read : (k : Kind) (s rest : List ℕ) → Spells k s rest → IsReadAs k rest s
spelled-read Name s rest (b, bs, e, start, all, ends) = subst (IsReadAs Name rest) (sym e) (name-read b bs rest start all ends)
spelled-read Text s rest (q, body, e, mark, lacks) = subst (IsReadAs Text rest) (sym e) (text-read q body rest mark lacks)
spelled-read Null s rest h = subst (IsReadAs Null rest) (sym h.0) (cond-false (is_word (get_or rest 0 0)) (Err X2) (front_of Null 4) (ends-word rest h.1))
spelled-read Pattern s rest (body, flag, e, is, fits) = subst (IsReadAs Pattern rest) (sym e) (pattern-read body flag rest is fits)
spelled-read k s rest h = subst (IsReadAs k rest) (sym h) refl

-- ---- what stays open is read so
never-ends : (bs : List ℕ) → ((body rest : List ℕ) → bs ≡ body ++ 47 ∷ rest → IsBody body → ⊥) → (o : Option ℕ) → IsEnd false bs o → o ≡ None
never-ends bs never None w = refl
never-ends bs never (Some n) (lt, cut, body) = absurd (never (take n bs) (drop (suc n) bs)
    (sym (take-append-drop (suc n) bs) ∙ ap (λ ys. ys ++ drop (suc n) bs) cut ∙ append_assoc (take n bs) (47 ∷ []) (drop (suc n) bs)) body)

pub open-read : (bs : List ℕ) → StaysOpen bs → lexeme bs ≡ Err X3
open-read _ (quote q bs mark lacks) = quoted q bs mark ∙ ap text_by (until-none q bs lacks)
open-read _ (pattern bs never) = ap (pattern_by bs) (never-ends bs never (body_length false bs) (body-is false bs))

-- ---- and what is read so stays open
none-begins : (bs : List ℕ) (x : ExprCode) → lexeme bs ≡ Err x → BeginsNone bs
none-begins bs x e kind slice rest is spells = let h = spelled-read kind slice rest spells in let f = ap lexeme is in cc

-- what isn't read stops the tokens
pub unread-stops : (b : ℕ) (bs : List ℕ) (x : ExprCode) → is_blank b ≡ false → lexeme (b ∷ bs) ≡ Err x → IsFrontFault (b ∷ bs) x → Stops (b ∷ bs) x
unread-stops b bs X2 blank e h = wrong b bs blank (none-begins (b ∷ bs) X2 e) (λ h. let f = open-read (b ∷ bs) h in cc)
unread-stops b bs X3 blank e stays = unclosed (b ∷ bs) stays
unread-stops b bs _ blank e h = absurd h

-- and what is wrong isn't read
pub wrong-unread : (b : ℕ) (bs : List ℕ) → BeginsNone (b ∷ bs) → (StaysOpen (b ∷ bs) → ⊥) → lexeme (b ∷ bs) ≡ Err X2
wrong-unread b bs none closed = by-front (lexeme (b ∷ bs)) (front-fits (b ∷ bs))
  where
    by-front : (r : Front) → Fits (b ∷ bs) r → r ≡ Err X2
    by-front (Ok x) h = absurd (none x.0 (take x.1 (b ∷ bs)) (drop x.1 (b ∷ bs)) (sym (take-append-drop x.1 (b ∷ bs))) h.1)
    by-front (Err X2) h = refl
    by-front (Err X3) h = absurd (closed h)
    by-front (Err _) h = absurd h
