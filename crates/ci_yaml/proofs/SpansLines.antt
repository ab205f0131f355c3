-- Lines whose texts stand one behind the other, as more lines are read.
use Rattle.std.proofs.Common.{◌≡◌, ℕ, suc, ◌+◌, ◌⊎◌, inl, inr, List, [], ◌∷◌, ◌++◌, length, refl, sym, ◌∙◌, ap, subst, append_assoc, length-append, arith}
use Rattle.std.proofs.lemmas.List.{append-nil}
use Rattle.ci_yaml.specs.Prelude.{Text, bytes_of, Line, is_lent, Stand, StandOn, Lines}
use Rattle.ci_yaml.specs.Spans.{line, block, none}
use Rattle.ci_yaml_lines.proofs.SpansStand.{stand-front}

-- ---- the texts before others

-- a list in two parts, parted in another place: within the first part, or behind it
abbrev Parted : List Text → List Text → List Text → List Text → Type 0
Parted a b ts us = ((ws : List Text) × (a ≡ ts ++ ws)) ⊎ ((ws : List Text) × (ts ≡ a ++ ws) × (b ≡ ws ++ us))

parted-more : (t u : Text) (a b ts us : List Text) → t ≡ u → Parted a b ts us → Parted (t ∷ a) b (u ∷ ts) us
parted-more t u a b ts us e (inl (ws, p)) = inl (ws, cc)
parted-more t u a b ts us e (inr (ws, p, q)) = inr (ws, cc, q)

parted : (a b ts us : List Text) → a ++ b ≡ ts ++ us → Parted a b ts us
parted [] b ts us e = inr (ts, refl, e)
parted (t ∷ a) b [] us e = inl (t ∷ a, refl)
parted (t ∷ a) b (u ∷ ts) us e = parted-more t u a b ts us (cc) (parted a b ts us (cc))

front-line : (doc : List Line) (n : ℕ) (l : Line) (ls : List Line) (a b ts us : List Text) → StandOn (suc n) l a → Parted a b ts us → ((ws : List Text) → b ≡ ws ++ us → Lines doc (suc n) ls ws) → Lines doc n (l ∷ ls) ts
front-line doc n l ls a b ts us stand (inl (ws, p)) rest =
    line n l ls ts [] ts (stand-front (record { line = suc n; end = length l }) l [] ts ws (subst (StandOn (suc n) l) p stand)) (none (suc n) ls) (sym (append-nil ts))
front-line doc n l ls a b ts us stand (inr (ws, p, q)) rest = line n l ls a ws ts stand (rest ws q) p

front-by : (doc : List Line) (n : ℕ) (ls : List Line) (all ts us : List Text) → Lines doc n ls all → all ≡ ts ++ us → Lines doc n ls ts
front-by doc n ls all [] us h e = none n ls
front-by doc n ls all (u ∷ ts) us (none n' ls') e = absurd cc
front-by doc n ls all (u ∷ ts) us (line n' l ls' a b all' stand rest is) e =
    front-line doc n l ls' a b (u ∷ ts) us stand (parted a b (u ∷ ts) us (sym is ∙ e)) (λ ws q. front-by doc (suc n) ls' b ws us rest q)
front-by doc n ls all (u ∷ ts) us (block n' ls' lines behind how t all' parts at own bytes span rest) e =
    let same : t ≡ u = cc in
    let others : all' ≡ ts ++ us = cc in
    block n ls lines behind how u ts parts at (ap (λ (x : Text). is_lent x.words) (sym same) ∙ own) (ap bytes_of (sym same) ∙ bytes) (ap (λ (x : Text). x.span) (sym same) ∙ span) (front-by doc (n + length lines) behind all' ts us rest others)

pub lines-front : (doc : List Line) (n : ℕ) (ls : List Line) (ts us : List Text) → Lines doc n ls (ts ++ us) → Lines doc n ls ts
lines-front doc n ls ts us h = front-by doc n ls (ts ++ us) ts us h refl

-- ---- more lines

later : (doc : List Line) (n : ℕ) (xs bs : List Line) (us : List Text) → Lines doc (n + length xs) bs us → Lines doc n (xs ++ bs) us
later doc n [] bs us h = let e : n + 0 ≡ n = omega arith in subst (λ (m : ℕ). Lines doc m bs us) e h
later doc n (a ∷ xs) bs us h =
    let e : n + suc (length xs) ≡ suc n + length xs = omega arith in
    line n a (xs ++ bs) [] us us (Stand.none a a [] (sym (append-nil a))) (later doc (suc n) xs bs us (subst (λ (m : ℕ). Lines doc m bs us) e h)) refl

pub lines-append : (doc : List Line) (n : ℕ) (xs bs : List Line) (ts us : List Text) → Lines doc n xs ts → Lines doc (n + length xs) bs us → Lines doc n (xs ++ bs) (ts ++ us)
lines-append doc n xs bs ts us (none n' xs') h = later doc n xs bs us h
lines-append doc n xs bs ts us (line n' l xs' a b ts' stand rest is) h =
    let e : n + suc (length xs') ≡ suc n + length xs' = omega arith in
    line n l (xs' ++ bs) a (b ++ us) (ts ++ us) stand (lines-append doc (suc n) xs' bs b us rest (subst (λ (m : ℕ). Lines doc m bs us) e h)) (ap (λ (x : List Text). x ++ us) is ∙ append_assoc a b us)
lines-append doc n xs bs ts us (block n' xs' lines behind how t ts' parts at own bytes span rest) h =
    let whole : length xs ≡ length lines + length behind = ap length parts ∙ length-append lines behind in
    let e : n + length xs ≡ n + length lines + length behind = omega arith in
    block n (xs ++ bs) lines (behind ++ bs) how t (ts' ++ us) (ap (λ (x : List Line). x ++ bs) parts ∙ append_assoc lines behind bs) at own bytes span
    (lines-append doc (n + length lines) behind bs ts' us rest (subst (λ (m : ℕ). Lines doc m bs us) e h))
