-- The lines of a block, one after the other.
use Rattle.std.proofs.Common.{◌≡◌, ℕ, suc, ◌+◌, ◌-◌, ◌<◌, ◌≤◌, Bool, true, false, cond, List, [], ◌∷◌, ◌++◌, length, take, drop, get_or, Option, Some, None, refl, sym, ◌∙◌, ap}
use Rattle.std.proofs.Common.{subst, append_assoc, arith, ◌==◌, ◌&&◌}
use denote.Bor.{Bor}
use Rattle.std.proofs.lemmas.List.{take_more, append-nil, length-drop, nil_from_length, map-append, length-map, take-map}
use Rattle.ci_yaml_lines.proofs.Lists.{last-parted, drop-at, push-some}
use Rattle.ci_yaml.specs.Prelude.{spaces, Line, is_spaces, is_in_block, first_indent, more_indent, indent_codes, block_codes, kept_len, without_end, AreBlock, texts_of, cut_text}
use Rattle.ci_yaml.specs.Prelude.{cut_lines, cut_strip, least}
use Rattle.ci_yaml_lines.proofs.Leasts.{no_least}

texts-push : (xs : List (Bor (List ℕ))) (x : Bor (List ℕ)) → texts_of (xs ++ x ∷ []) ≡ texts_of xs ++ x.now ∷ []
texts-push xs x = map-append (λ s. s.now) xs (x ∷ [])

pub length-texts : (xs : List (Bor (List ℕ))) → length (texts_of xs) ≡ length xs
length-texts xs = length-map xs (λ s. s.now)

-- the lines from a place on
pub texts-next : (xs : List (Bor (List ℕ))) (i : ℕ) (d : Bor (List ℕ)) (l : Line) → i < length xs → l ≡ (get_or xs i d).now → texts_of (drop i xs) ≡ l ∷ texts_of (drop (i + 1) xs)
texts-next xs i d l lt is = ap texts_of (drop-at xs i d lt) ∙ ap (λ (m : Line). m ∷ texts_of (drop (i + 1) xs)) (sym is)

pub texts-past : (xs : List (Bor (List ℕ))) (i : ℕ) → length xs ≤ i → texts_of (drop i xs) ≡ []
texts-past xs i le = ap texts_of (nil_from_length (drop i xs) (omega (arith, length-drop i xs)))

kept-more : (ls : List Line) (l : Line) → is_spaces l ≡ true → kept_len (ls ++ l ∷ []) ≡ kept_len ls
kept-more [] l e = ap (λ t. cond t 0 1) e
kept-more (m ∷ ls) l e = ap (λ n. cond ((n == 0) && is_spaces m) 0 (1 + n)) (kept-more ls l e)

kept-all : (ls : List Line) (l : Line) → is_spaces l ≡ false → kept_len (ls ++ l ∷ []) ≡ length (ls ++ l ∷ [])
kept-all [] l e = ap (λ t. cond t 0 1) e
kept-all (m ∷ ls) l e = rw (kept-all ls l e) (by (length (ls ++ l ∷ [])) (is_spaces m) (push-some ls l))
  where
    by : (n : ℕ) (t : Bool) → 0 < n → cond ((n == 0) && t) 0 (1 + n) ≡ suc n
    by n t lt = grind arith

texts-parted : (xs : List (Bor (List ℕ))) (d : Bor (List ℕ)) (l : Line) → 1 ≤ length xs → l ≡ (get_or xs (length xs - 1) d).now → texts_of xs ≡ texts_of (take (length xs - 1) xs) ++ l ∷ []
texts-parted xs d l le is =
    ap texts_of (last-parted xs d le) ∙ texts-push (take (length xs - 1) xs) (get_or xs (length xs - 1) d) ∙ ap (λ (m : Line). texts_of (take (length xs - 1) xs) ++ m ∷ []) (sym is)

pub kept-front : (xs : List (Bor (List ℕ))) (d : Bor (List ℕ)) (l : Line) → 1 ≤ length xs → l ≡ (get_or xs (length xs - 1) d).now → is_spaces l ≡ true → kept_len (texts_of (take (length xs - 1) xs)) ≡ kept_len (texts_of xs)
kept-front xs d l le is e = sym (ap kept_len (texts-parted xs d l le is) ∙ kept-more (texts_of (take (length xs - 1) xs)) l e)

pub kept-whole : (xs : List (Bor (List ℕ))) (d : Bor (List ℕ)) (l : Line) → 1 ≤ length xs → l ≡ (get_or xs (length xs - 1) d).now → is_spaces l ≡ false → length xs ≡ kept_len (texts_of xs)
kept-whole xs d l le is e =
    sym (ap kept_len (texts-parted xs d l le is) ∙ kept-all (texts_of (take (length xs - 1) xs)) l e ∙ ap length (sym (texts-parted xs d l le is)) ∙ length-texts xs)

-- ---- steps of the loops

pub indent-here : (xs : List (Bor (List ℕ))) (i : ℕ) (d : Bor (List ℕ)) (l : Line) → i < length xs → l ≡ (get_or xs i d).now → is_spaces l ≡ false → first_indent (texts_of (drop i xs)) ≡ Some (spaces l)
indent-here xs i d l lt is e = ap first_indent (texts-next xs i d l lt is) ∙ ap (λ t. cond t (first_indent (texts_of (drop (i + 1) xs))) (Some (spaces l))) e

pub indent-next : (xs : List (Bor (List ℕ))) (i : ℕ) (d : Bor (List ℕ)) (l : Line) → i < length xs → l ≡ (get_or xs i d).now → is_spaces l ≡ true → first_indent (texts_of (drop (i + 1) xs)) ≡ first_indent (texts_of (drop i xs))
indent-next xs i d l lt is e = sym (ap first_indent (texts-next xs i d l lt is) ∙ ap (λ t. cond t (first_indent (texts_of (drop (i + 1) xs))) (Some (spaces l))) e)

pub push-next : (n : ℕ) (xs : List (Bor (List ℕ))) (i : ℕ) (d : Bor (List ℕ)) (a b e : List ℕ) → i < length xs → b ≡ a ++ cut_text n (get_or xs i d).now → e ≡ b ++ 10 ∷ []
    → e ++ cut_lines n (texts_of (drop (i + 1) xs)) ≡ a ++ cut_lines n (texts_of (drop i xs))
push-next n xs i d a b e lt b-is e-is =
    let l : Line = (get_or xs i d).now in
    let rest : List ℕ = cut_lines n (texts_of (drop (i + 1) xs)) in
    ap (λ (y : List ℕ). y ++ rest) (e-is ∙ ap (λ (y : List ℕ). y ++ 10 ∷ []) b-is)
    ∙ append_assoc (a ++ cut_text n l) (10 ∷ []) rest ∙ append_assoc a (cut_text n l) (10 ∷ rest)
    ∙ ap (λ (ls : List Line). a ++ cut_lines n ls) (sym (texts-next xs i d l lt refl))

pub push-past : (n : ℕ) (xs : List (Bor (List ℕ))) (i : ℕ) (a : List ℕ) → length xs ≤ i → a ≡ a ++ cut_lines n (texts_of (drop i xs))
push-past n xs i a le = sym (ap (λ (ls : List Line). a ++ cut_lines n ls) (texts-past xs i le) ∙ append-nil a)

-- ---- a block's text

strip-push : (n : ℕ) (ls : List Line) (l : Line) → cut_strip n (ls ++ l ∷ []) ≡ cut_lines n ls ++ cut_text n l
strip-push n [] l = refl
strip-push n (m ∷ []) l = sym (append_assoc (cut_text n m) (10 ∷ []) (cut_text n l))
strip-push n (m ∷ k ∷ ls) l =
    ap (λ (x : List ℕ). cut_text n m ++ 10 ∷ x) (strip-push n (k ∷ ls) l) ∙ sym (append_assoc (cut_text n m) (10 ∷ cut_lines n (k ∷ ls)) (cut_text n l))

pub strip-parts : (n : ℕ) (xs : List (Bor (List ℕ))) (d : Bor (List ℕ)) (a b e : List ℕ) → 1 ≤ length xs → b ≡ a ++ cut_lines n (texts_of (take (length xs - 1) xs)) → e ≡ b ++ cut_text n (get_or xs (length xs - 1) d).now
    → e ≡ a ++ cut_strip n (texts_of xs)
strip-parts n xs d a b e le b-is e-is =
    let front : List Line = texts_of (take (length xs - 1) xs) in
    let l : Line = (get_or xs (length xs - 1) d).now in
    e-is ∙ ap (λ (x : List ℕ). x ++ cut_text n l) b-is ∙ append_assoc a (cut_lines n front) (cut_text n l) ∙ ap (λ (x : List ℕ). a ++ x) (sym (strip-push n front l))
    ∙ ap (λ (ls : List Line). a ++ cut_strip n ls) (sym (texts-parted xs d l le refl))

pub texts-take : (n : ℕ) (xs : List (Bor (List ℕ))) → texts_of (take n xs) ≡ take n (texts_of xs)
texts-take n xs = sym (take-map (λ s. s.now) n xs)

pub texts-front : (n : ℕ) (xs : List (Bor (List ℕ))) → n ≡ kept_len (texts_of xs) → texts_of (take n xs) ≡ without_end (texts_of xs)
texts-front n xs e = texts-take n xs ∙ ap (λ (k : ℕ). take k (texts_of xs)) e

-- ---- the block's lines, one more

-- the indent of the first lines, or else that of the others
abbrev first_of : Option ℕ → Option ℕ → Option ℕ
first_of None o = o
first_of (Some n) o = Some n

pub first-append : (a b : List Line) → first_indent (a ++ b) ≡ first_of (first_indent a) (first_indent b)
first-append [] b = refl
first-append (l ∷ a) b = rw (first-append a b) (by (is_spaces l) (first_indent a))
  where
    by : (t : Bool) (x : Option ℕ) → cond t (first_of x (first_indent b)) (Some (spaces l)) ≡ first_of (cond t x (Some (spaces l))) (first_indent b)
    by true x = refl
    by false x = refl

more-is : (o : Option ℕ) (l : Line) → first_of o (first_indent (l ∷ [])) ≡ more_indent o l
more-is None l = refl
more-is o l = refl

texts-more : (xs : List (Bor (List ℕ))) (i : ℕ) (d : Bor (List ℕ)) (l : Line) → i < length xs → l ≡ (get_or xs i d).now → texts_of (take (i + 1) xs) ≡ texts_of (take i xs) ++ l ∷ []
texts-more xs i d l lt is = ap texts_of (take_more xs i d lt) ∙ texts-push (take i xs) (get_or xs i d) ∙ ap (λ (m : Line). texts_of (take i xs) ++ m ∷ []) (sym is)

pub indent-more : (xs : List (Bor (List ℕ))) (i : ℕ) (d : Bor (List ℕ)) (l : Line) (o p : Option ℕ) → i < length xs → l ≡ (get_or xs i d).now → o ≡ first_indent (texts_of (take i xs)) → p ≡ more_indent o l → p ≡ first_indent (texts_of (take (i + 1) xs))
indent-more xs i d l o p lt is o-is p-is =
    p-is ∙ ap (λ x. more_indent x l) o-is ∙ sym (first-append (texts_of (take i xs)) (l ∷ []) ∙ more-is (first_indent (texts_of (take i xs))) l) ∙ ap first_indent
    (sym (texts-more xs i d l lt is))

pub are-push : (c : ℕ) (before ls : List Line) (l : Line) → AreBlock c before ls → is_in_block c l ≡ true → block_codes (before ++ ls) l ≡ [] → AreBlock c before (ls ++ l ∷ [])
are-push c before [] l are inside_it clean = (inside_it, subst (λ (b : List Line). block_codes b l ≡ []) (append-nil before) clean, tt)
are-push c before (m ∷ ls) l are inside_it clean = (are.0, are.1, are-push c (before ++ m ∷ []) ls l are.2 inside_it (subst (λ (b : List Line). block_codes b l ≡ []) (sym (append_assoc before (m ∷ []) ls)) clean))

pub block-more : (c : ℕ) (xs : List (Bor (List ℕ))) (i : ℕ) (d : Bor (List ℕ)) (l : Line) (o : Option ℕ) → i < length xs → l ≡ (get_or xs i d).now → o ≡ first_indent (texts_of (take i xs))
    → AreBlock c [] (texts_of (take i xs)) → is_in_block c l ≡ true → least (indent_codes o l) ≡ None → AreBlock c [] (texts_of (take (i + 1) xs))
block-more c xs i d l o lt is o-is are inside_it clean =
    subst (AreBlock c []) (sym (texts-more xs i d l lt is))
    (are-push c [] (texts_of (take i xs)) l are inside_it (no_least (block_codes (texts_of (take i xs)) l) (ap (λ x. least (indent_codes x l)) (sym o-is) ∙ clean)))
