-- The laws of the texts that stand one behind the other in a line.
use Rattle.std.proofs.Common.{◌≡◌, ℕ, ◌+◌, ◌-◌, List, [], ◌∷◌, ◌++◌, length, refl, sym, ◌∙◌, append_assoc, arith}
use Rattle.std.proofs.lemmas.List.{append-nil, length-append}
use Rattle.ci_yaml_lines.specs.Prelude.{SourceLine, Writes, span_before, Stand, none}
use Rattle.ci_yaml_lines.specs.declared.tree.Text.{Text}
use Rattle.ci_yaml_lines.specs.Spans.{more}

-- from further in front
pub stand-earlier : (at : SourceLine) (a b c front : List ℕ) (ts : List Text) → a ≡ front ++ b → Stand at b ts c → Stand at a ts c
stand-earlier at a b c front [] e (none bs skipped rest is) =
    none a (front ++ skipped) c (e ∙ (λ i. front ++ is i) ∙ sym (append_assoc front skipped c))
stand-earlier at a b c front (t ∷ ts) e (more bs skipped raw behind rest u us is written span stand) =
    more a (front ++ skipped) raw behind c t ts
    (e ∙ (λ i. front ++ is i) ∙ sym (append_assoc front (skipped ++ raw) behind) ∙ λ i. sym (append_assoc front skipped raw) i ++ behind) written span stand

-- nothing stands there, and the rest is all
pub stand-none : (at : SourceLine) (a : List ℕ) → Stand at a [] a
stand-none at a = none a [] a refl

-- one behind the other
pub stand-then : (at : SourceLine) (a b c : List ℕ) (ts us : List Text) → Stand at a ts b → Stand at b us c → Stand at a (ts ++ us) c
stand-then at a b c [] us (none bs front rest is) stand = stand-earlier at a b c front us is stand
stand-then at a b c (t ∷ ts) us (more bs front raw behind rest u us' is written span first) stand =
    more a front raw behind c t (ts ++ us) is written span (stand-then at behind b c ts us first stand)

-- what stands there, whatever comes behind
pub stand-all : (at : SourceLine) (a b : List ℕ) (ts : List Text) → Stand at a ts b → Stand at a ts []
stand-all at a b [] stand = none a a [] (sym (append-nil a))
stand-all at a b (t ∷ ts) (more bs front raw behind rest u us is written span stand) =
    more a front raw behind [] t ts is written span (stand-all at behind b ts stand)

-- the texts before others
pub stand-front : (at : SourceLine) (a b : List ℕ) (ts us : List Text) → Stand at a (ts ++ us) b → Stand at a ts []
stand-front at a b [] us stand = none a a [] (sym (append-nil a))
stand-front at a b (t ∷ ts) us (more bs front raw behind rest u all is written span stand) =
    more a front raw behind [] t ts is written span (stand-front at behind b ts us stand)

-- one text, with what comes before and behind it
pub stand-one : (at : SourceLine) (a front raw behind : List ℕ) (t : Text) → a ≡ front ++ raw ++ behind → Writes raw t.words → t.span ≡ span_before at (raw ++ behind) behind → Stand at a (t ∷ []) behind
stand-one at a front raw behind t is written span = more a front raw behind behind t [] is written span (stand-none at behind)

-- ---- a longer line

abbrev pub longer : SourceLine → List ℕ → SourceLine
longer at xs = record { line = at.line; end = at.end + length xs }

less : (e n m k : ℕ) → n ≡ m + k → e + k - n ≡ e - m
less e n m k is = omega arith

pub span-longer : (at : SourceLine) (a b xs : List ℕ) → span_before (longer at xs) (a ++ xs) (b ++ xs) ≡ span_before at a b
span-longer at a b xs =
    let from = less at.end (length (a ++ xs)) (length a) (length xs) (length-append a xs) in
    let to = less at.end (length (b ++ xs)) (length b) (length xs) (length-append b xs) in
    λ i. record { start = record { line = at.line; column = from i }; end = record { line = at.line; column = to i } }

-- The line goes on behind the text and the rest.
pub stand-longer : (at : SourceLine) (a b xs : List ℕ) (ts : List Text) → Stand at a ts b → Stand (longer at xs) (a ++ xs) ts (b ++ xs)
stand-longer at a b xs [] (none bs front rest is) =
    none (a ++ xs) front (b ++ xs) ((λ i. is i ++ xs) ∙ append_assoc front b xs)
stand-longer at a b xs (t ∷ ts) (more bs front raw behind rest u us is written span stand) =
    more (a ++ xs) front raw (behind ++ xs) (b ++ xs) t ts
    ((λ i. is i ++ xs) ∙ append_assoc (front ++ raw) behind xs) written
    (span ∙ sym (span-longer at (raw ++ behind) behind xs) ∙ λ i. span_before (longer at xs) (append_assoc raw behind xs i) (behind ++ xs))
    (stand-longer at behind b xs ts stand)
