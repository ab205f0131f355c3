-- Texts that stand one behind the other, line by line, are written there.
use Rattle.std.proofs.Common.{◌≡◌, ℕ, suc, ◌+◌, ◌-◌, ◌<◌, ◌≤◌, inl, inr, List, [], ◌∷◌, ◌++◌, length, refl, sym, ◌∙◌, ap, subst, append_assoc, length-append, arith}
use Rattle.std.specs.Prelude.{⊤}
use Rattle.ci_yaml.specs.Prelude.{SourceLine, Text, Line, Stand, more, StandOn, IsBlockAt, on_line, in_block, AllAt, Precedes, Ascend, AreWritten, Lines}
use Rattle.ci_yaml_lines.specs.declared.tree.Place.{Place}
use Rattle.ci_yaml_lines.specs.Prelude.{none}
use Rattle.ci_yaml.specs.Spans.{line, block}

-- ---- each text is what its span holds

held-append : (ls : List Line) (ts us : List Text) → AllAt ls ts → AllAt ls us → AllAt ls (ts ++ us)
held-append ls [] us p q = q
held-append ls (t ∷ ts) us p q = (p.0, held-append ls ts us p.1 q)

column-before : (l passed bs front rest : List ℕ) → l ≡ passed ++ bs → bs ≡ front ++ rest → length l - length rest ≡ length (passed ++ front)
column-before l passed bs front rest e is =
    let whole : length l ≡ length passed + length bs = ap length e ∙ length-append passed bs in
    let part : length bs ≡ length front + length rest = ap length is ∙ length-append front rest in
    let all : length (passed ++ front) ≡ length passed + length front = length-append passed front in
    omega arith

stand-held : (before after : List Line) (l passed bs rest : List ℕ) (ts : List Text) → l ≡ passed ++ bs → Stand (record { line = suc (length before); end = length l }) bs ts rest → AllAt (before ++ l ∷ after) ts
stand-held before after l passed bs rest ts e (none bs' front rest' is) = tt
stand-held before after l passed bs rest all e (more bs' front raw behind rest' t ts is written span stand) =
    let at-start : length l - length (raw ++ behind) ≡ length (passed ++ front) = column-before l passed bs front (raw ++ behind) e (is ∙ append_assoc front raw behind) in
    let at-end : length l - length behind ≡ length (passed ++ front) + length raw =
    column-before l passed bs (front ++ raw) behind e is ∙ ap length (sym (append_assoc passed front raw)) ∙ length-append (passed ++ front) raw in
    let parts : l ≡ passed ++ front ++ raw ++ behind =
    e ∙ ap (λ (x : List ℕ). passed ++ x) (is ∙ append_assoc front raw behind) ∙ sym (append_assoc passed front (raw ++ behind)) ∙ sym (append_assoc (passed ++ front) raw behind) in (
      on_line before l after (passed ++ front) raw behind refl parts written
          (span ∙ rw (at-start, at-end) refl),
      stand-held before after l (passed ++ front ++ raw) behind rest ts parts stand,
    )

lines-held : (doc before : List Line) (n : ℕ) (ls : List Line) (ts : List Text) → doc ≡ before ++ ls → n ≡ length before → Lines doc n ls ts → AllAt (before ++ ls) ts
lines-held doc before n ls ts whole e (Lines.none n' ls') = tt
lines-held doc before n ls ts whole e (line n' l ls' us vs all' stand rest is) =
    let here : AllAt (before ++ l ∷ ls') us = stand-held before ls' l [] l [] us refl (subst (λ (m : ℕ). StandOn (suc m) l us) e stand) in
    let next : suc n ≡ length (before ++ l ∷ []) = omega (arith, length-append before (l ∷ [])) in
    let there : AllAt (before ++ l ∷ ls') vs =
    subst (λ (x : List Line). AllAt x vs) (append_assoc before (l ∷ []) ls') (lines-held doc (before ++ l ∷ []) (suc n) ls' vs (whole ∙ sym (append_assoc before (l ∷ []) ls')) next rest) in
    subst (AllAt (before ++ l ∷ ls')) (sym is) (held-append (before ++ l ∷ ls') us vs here there)
lines-held doc before n ls ts whole e (block n' ls' lines behind how t vs parts at own bytes span rest) =
    let next : n + length lines ≡ length (before ++ lines) = omega (arith, length-append before lines) in
    let all : before ++ ls ≡ before ++ lines ++ behind = ap (λ (x : List Line). before ++ x) parts ∙ sym (append_assoc before lines behind) in (
      in_block n how lines (subst (λ (x : List Line). IsBlockAt x n how lines) whole at) own bytes span,
      subst (λ (x : List Line). AllAt x vs) (sym all) (lines-held doc (before ++ lines) (n + length lines) behind vs (whole ∙ all) next rest),
    )

-- ---- the spans ascend

-- the texts begin here or later
abbrev From : Place → List Text → Type 0
From p [] = ⊤
From p (t ∷ ts) = Precedes p t.span.start

precedes-then : (p q r : Place) → Precedes p q → Precedes q r → Precedes p r
precedes-then p q r (inl a) (inl b) = inl (omega arith)
precedes-then p q r (inl a) (inr b) = inl (omega (arith, b.0))
precedes-then p q r (inr a) (inl b) = inl (omega (arith, a.0))
precedes-then p q r (inr a) (inr b) = inr (a.0 ∙ b.0, omega (arith, a.1, b.1))

from-later : (p q : Place) (ts : List Text) → Precedes p q → From q ts → From p ts
from-later p q [] a b = tt
from-later p q (t ∷ ts) a b = precedes-then p q t.span.start a b

ascend-more : (t : Text) (ts : List Text) → From t.span.end ts → Ascend ts → Ascend (t ∷ ts)
ascend-more t [] p q = tt
ascend-more t (u ∷ ts) p q = (p, q)

-- where a text stands on the line that has so many bytes more
abbrev spot : SourceLine → ℕ → Place
spot at n = record { line = at.line; column = at.end - n }

stand-ascend : (at : SourceLine) (bs rest : List ℕ) (us ts : List Text) → Stand at bs us rest → From (spot at 0) ts → Ascend ts → From (spot at (length bs)) (us ++ ts) × Ascend (us ++ ts)
stand-ascend at bs rest us ts (none bs' front rest' is) from up =
    let le : at.end - length bs ≤ at.end - 0 = omega arith in
    (from-later (spot at (length bs)) (spot at 0) ts (inr (refl, le)) from, up)
stand-ascend at bs rest all ts (more bs' front raw behind rest' t us is written span stand) from up =
    let h = stand-ascend at behind rest us ts stand from up in
    let long : length bs ≡ length front + length (raw ++ behind) = ap length (is ∙ append_assoc front raw behind) ∙ length-append front (raw ++ behind) in
    let le : at.end - length bs ≤ at.end - length (raw ++ behind) = omega arith in (
      subst (Precedes (spot at (length bs))) (sym (ap (λ s. s.start) span)) (inr (refl, le)),
      ascend-more t (us ++ ts) (subst (λ (p : Place). From p (us ++ ts)) (sym (ap (λ s. s.end) span)) h.0) h.1,
    )

lines-ascend : (doc : List Line) (n : ℕ) (ls : List Line) (ts : List Text) → Lines doc n ls ts → From (record { line = suc n; column = 0 }) ts × Ascend ts
lines-ascend doc n ls ts (Lines.none n' ls') = (tt, tt)
lines-ascend doc n ls all (line n' l ls' us ts all' stand rest is) =
    let at : SourceLine = record { line = suc n; end = length l } in
    let later = lines-ascend doc (suc n) ls' ts rest in
    let less : suc n < suc (suc n) = omega arith in
    let here = stand-ascend at l [] us ts stand (from-later (spot at 0) (record { line = suc (suc n); column = 0 }) ts (inl less) later.0) later.1 in
    let low : 0 ≤ length l - length l = omega arith in (
      subst (From (record { line = suc n; column = 0 })) (sym is) (from-later (record { line = suc n; column = 0 }) (spot at (length l)) (us ++ ts) (inr (refl, low)) here.0),
      subst Ascend (sym is) here.1,
    )
lines-ascend doc n ls all (block n' ls' lines behind how t ts parts at own bytes span rest) =
    let later = lines-ascend doc (n + length lines) behind ts rest in
    let low : 0 ≤ 0 = omega arith in (
      subst (Precedes (record { line = suc n; column = 0 })) (sym (ap (λ s. s.start) span)) (inr (refl, low)),
      ascend-more t ts (subst (λ (p : Place). From p ts) (sym (ap (λ s. s.end) span)) later.0) later.1,
    )

pub lines-written : (ls : List Line) (ts : List Text) → Lines ls 0 ls ts → AreWritten ls ts
lines-written ls ts h = record { held = lines-held ls [] 0 ls ts refl refl h; ascend = (lines-ascend ls 0 ls ts h).1 }
