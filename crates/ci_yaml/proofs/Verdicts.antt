-- A text has one tree, or one fault.
use Rattle.std.proofs.Common.{◌≡◌, ℕ, suc, ◌<◌, ◌≤◌, ◌⊎◌, inl, inr, List, [], ◌∷◌, ◌++◌, length, take, Option, Some, None, Result, Ok, Err, refl, sym, ◌∙◌, ap, subst, arith}
use Rattle.std.proofs.Common.{append_assoc, ◌-◌, get_or, IfOk, IfErr}
use Rattle.std.specs.Str.Lines.{lines}
use Rattle.std.proofs.lemmas.Bool.{cases_lt, cases_order}
use Rattle.std.proofs.lemmas.List.{length-append, take-append-le, take_at}
use Rattle.ci_yaml.specs.Prelude.{MAX_FILE_BYTES, Code, Y1, Y2, Y3, Y4, Y5, Y6, Y7, Y8, Y9, Y10, Y11, Y12, Value, node, Entry, IsNode, IsDocument, of_node, finished, Line, HasTree}
use Rattle.ci_yaml.specs.Prelude.{IsGood, has_tree, skipped, IsFault, too_long, at_line, no_content, Reader, read_lines, beginning, RefusedBy, GivesFault, value_view, Tree}
use Rattle.ci_yaml.specs.Prelude.{YamlFault}
use Rattle.ci_yaml.specs.Node.{of_line}
use Rattle.ci_yaml_lines.specs.Least.{number_of}
use Rattle.ci_yaml.proofs.LeastCodes.{parses-same}
use Rattle.ci_yaml.proofs.Trees.{tree-is, good-front, stops}
use Rattle.ci_yaml.proofs.ReadTexts.{fault-at, nothing-by}

-- ---- codes differ in their numbers

-- the code of a number from 1 on
abbrev code_of : ℕ → Code
code_of n = get_or (Y1 ∷ Y2 ∷ Y3 ∷ Y4 ∷ Y5 ∷ Y6 ∷ Y7 ∷ Y8 ∷ Y9 ∷ Y10 ∷ Y11 ∷ Y12 ∷ []) (n - 1) Y1

number-back : (c : Code) → code_of (number_of c) ≡ c
number-back Y1 = refl
number-back c = refl

-- ---- one fault

parts-same : (a b : List Line) (l m : Line) (c d : List Line) → length a ≡ length b → a ++ l ∷ c ≡ b ++ m ∷ d → (a ≡ b) × (l ≡ m)
parts-same [] [] l m c d n e = (refl, cc)
parts-same (x ∷ a) (y ∷ b) l m c d n e =
    let heads : x ≡ y = cc in
    let r = parts-same a b l m c d (omega (arith, n)) cc in
    (ap (λ (z : Line). z ∷ a) heads ∙ ap (λ (z : List Line). y ∷ z) r.0, r.1)
parts-same a b l m c d n e = absurd (omega (arith, n))

-- a shorter beginning lies in the longer one
front-of : (a b : List Line) (l m : Line) (c d : List Line) → length a < length b → a ++ l ∷ c ≡ b ++ m ∷ d → take (suc (length a)) b ≡ a ++ l ∷ []
front-of a b l m c d lt e =
    let size : length (a ++ l ∷ []) ≡ suc (length a) = omega (arith, length-append a (l ∷ [])) in
    sym (take-append-le (suc (length a)) b (m ∷ d) (omega (arith, lt))) ∙ ap (take (suc (length a))) (sym e ∙ sym (append_assoc a (l ∷ []) c))
    ∙ take_at (a ++ l ∷ []) c (suc (length a)) size

-- no earlier line is bad
not-earlier : (a b : List Line) (l m : Line) (c d : List Line) → length a < length b → a ++ l ∷ c ≡ b ++ m ∷ d
    → (IsGood (a ++ l ∷ []) → ⊥) → ((k : ℕ) → k ≤ length b → IsGood (take k b)) → ⊥
not-earlier a b l m c d lt e bad good = bad (subst IsGood (front-of a b l m c d lt e) (good (suc (length a)) (omega arith)))

-- not all lines are a good beginning
not-all : (ls a : List Line) (l : Line) (c : List Line) → ls ≡ a ++ l ∷ c → (IsGood (a ++ l ∷ []) → ⊥) → IsGood ls → ⊥
not-all ls a l c e bad good = bad (good-front (a ++ l ∷ []) c (subst IsGood (e ∙ sym (append_assoc a (l ∷ []) c)) good))

pub one_fault : (bs : List ℕ) (i j : ℕ) (c d : Code) → IsFault bs i c → IsFault bs j d → (i ≡ j) × (c ≡ d)
one_fault bs i j c d (too_long long at is) (too_long long' at' is') = (at ∙ sym at', is ∙ sym is')
one_fault bs i j c d (too_long long at is) (at_line size before l after parts at' good bad least) = absurd (omega arith)
one_fault bs i j c d (too_long long at is) (no_content size end parses at' is') = absurd (omega arith)
one_fault bs i j c d (at_line size before l after parts at good bad least) (too_long long at' is') = absurd (omega arith)
one_fault bs i j c d (at_line size before l after parts at good bad least) (no_content size' end parses at' is') = absurd (not-all (lines bs) before l after parts bad (skipped end parses))
one_fault bs i j c d (no_content size end parses at is) (too_long long at' is') = absurd (omega arith)
one_fault bs i j c d (no_content size end parses at is) (no_content size' end' parses' at' is') = (at ∙ sym at', is ∙ sym is')
one_fault bs i j c d (no_content size end parses at is) (at_line size' before l after parts at' good bad least) = absurd (not-all (lines bs) before l after parts bad (skipped end parses))
one_fault bs i j c d (at_line size before l after parts at good bad least) (at_line size' before' l' after' parts' at' good' bad' least') =
    elim (cases_order (length before) (length before')) [
      | inl same ↦
          let both = parts-same before before' l l' after after' same (sym parts ∙ parts') in
          let le1 : number_of c ≤ number_of d = least.least d (rw (both.0, both.1) least'.holds) in
          let le2 : number_of d ≤ number_of c = least'.least c (rw (← both.0, ← both.1) least.holds) in
          let numbers : number_of c ≡ number_of d = omega arith in
          (at ∙ ap suc same ∙ sym at', sym (number-back c) ∙ ap code_of numbers ∙ number-back d)
      | inr (inl lt) ↦ absurd (not-earlier before before' l l' after after' lt (sym parts ∙ parts') bad good')
      | inr (inr gt) ↦ absurd (not-earlier before' before l' l after' after gt (sym parts' ∙ parts) bad' good)
    ]

-- ---- not both

empty-node : (v : Value) (l : ℕ) → IsNode v 1 l [] → ⊥
empty-node (node kind ms) l h = omega (arith, h.1)
empty-node v l h = h

nothing-has : (v : Value) (es : List Entry) → es ≡ [] → IsDocument v es → ⊥
nothing-has v es nil (of_node l le h) = empty-node v l (subst (λ (x : List Entry). IsNode v 1 l x) nil h)
nothing-has v es nil (of_line e is head column given) = let bad : e ∷ [] ≡ [] = sym is ∙ nil in absurd cc

pub not_both : (bs : List ℕ) (v : Value) (i : ℕ) (c : Code) → HasTree bs v → IsFault bs i c → ⊥
not_both bs v i c h (too_long long at is) = omega (arith, h.size)
not_both bs v i c h (at_line size before l after parts at good bad least) = not-all (lines bs) before l after parts bad (has_tree h.entries h.end v h.parses h.document)
not_both bs v i c h (no_content size end parses at is) = nothing-has v h.entries (parses-same (lines bs) h.entries [] h.end end h.parses parses).0 h.document

-- ---- one of both

verdict-by : (bs : List ℕ) (res : Result Reader Code) → length bs ≤ MAX_FILE_BYTES → read_lines beginning (lines bs) ≡ res → ((v : Value) × HasTree bs v) ⊎ ((at : ℕ) × (code : Code) × IsFault bs at code)
verdict-by bs (Err code) le e = let s = stops (lines bs) code e in inr (s.0, code, fault-at bs s.0 code le s.1)
verdict-by bs (Ok r) le e = by (finished r.state) refl
  where
    by : (o : Option Value) → finished r.state ≡ o → ((v : Value) × HasTree bs v) ⊎ ((at : ℕ) × (code : Code) × IsFault bs at code)
    by (Some v) is = let d = tree-is (lines bs) r v e is in inl (v, record { size = le; entries = d.0; end = d.1; parses = d.2; document = d.3 })
    by None is = inr (1, Y12, no_content le r.end (nothing-by (lines bs) r r.state refl e is) refl refl)

pub tree-or-fault : (bs : List ℕ) → ((v : Value) × HasTree bs v) ⊎ ((at : ℕ) × (code : Code) × IsFault bs at code)
tree-or-fault bs = elim (cases_lt MAX_FILE_BYTES (length bs)) [
  | inl lt ↦ inr (1, Y1, too_long lt refl refl)
  | inr le ↦ verdict-by bs (read_lines beginning (lines bs)) le refl
]

-- a text that has a fault is refused with it
pub text-all_faults : (bs : List ℕ) (res : Result Tree YamlFault) → IfOk res (λ t. HasTree bs (value_view t)) → IfErr res (RefusedBy bs)
    → (at : ℕ) (code : Code) → IsFault bs at code → GivesFault at code res
text-all_faults bs (Ok t) tree fault at code f = not_both bs (value_view t) at code tree f
text-all_faults bs (Err YamlFault.Memory) tree fault at code f = tt
text-all_faults bs (Err (YamlFault.Fault c n)) tree fault at code f = one_fault bs n at c code fault f
