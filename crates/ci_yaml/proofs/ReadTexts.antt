-- What reading the lines of a text says of the text.
use Rattle.std.proofs.Common.{◌≡◌, ℕ, suc, ◌-◌, ◌≤◌, ◌⊎◌, inl, inr, Bool, List, [], ◌∷◌, map, length, take, Some, None, Result, Ok, Err, refl, sym, ◌∙◌, ap, subst, arith, ◌==◌}
use Rattle.std.proofs.Common.{IfOk, IfErr, slice_index}
use Rattle.std.specs.Prelude.{⊤}
use Rattle.std.specs.List.{slice_split, onto_first}
use Rattle.std.specs.Str.Lines.{lines, lines_of_parts}
use Rattle.std.proofs.lemmas.List.{take-append-drop, length-take}
use Rattle.ci_yaml_lines.proofs.Forms.{either}
use denote.Bor.{Bor}
use Rattle.ci_yaml.specs.Prelude.{MAX_FILE_BYTES, Code, Y12, YamlFault, Tree, value_view, Value, Entry, State, start, finished, Line, Parses, HasTree, IsGood, IsFault, at_line}
use Rattle.ci_yaml.specs.Prelude.{no_content, texts_of, Reader, read_lines, beginning, StopsAt, AreShort, Reads, RefusedBy, GivesTree}
use Rattle.ci_yaml.proofs.Sound.{StateStands, some_is, ok_is}
use Rattle.ci_yaml.proofs.LinesSound.{lines-stand}
use Rattle.ci_yaml.proofs.LeastCodes.{stop-least}
use Rattle.ci_yaml.proofs.Trees.{tree-is, tree-read, good-front, stopped, stop-is_first}

-- ---- how long lines are

abbrev AreWithin : ℕ → List Line → Type 0
AreWithin n [] = ⊤
AreWithin n (l ∷ ls) = (length l ≤ n) × AreWithin n ls

within-more : (n : ℕ) (ls : List Line) → AreWithin n ls → AreWithin (suc n) ls
within-more n [] h = tt
within-more n (l ∷ ls) h = (omega (arith, h.0), within-more n ls h.1)

onto-within : (n b : ℕ) (ls : List Line) → AreWithin n ls → AreWithin (suc n) (onto_first b ls)
onto-within n b [] h = (omega arith, tt)
onto-within n b (l ∷ ls) h = (omega (arith, h.0), within-more n ls h.1)

split-within : (p : ℕ → Bool) (bs : List ℕ) → AreWithin (length bs) (slice_split p bs)
split-within p [] = (omega arith, tt)
split-within p (b ∷ bs) =
    let h : AreWithin (length bs) (slice_split p bs) = split-within p bs in
    either (AreWithin (suc (length bs))) (p b) ([] ∷ slice_split p bs) (onto_first b (slice_split p bs)) (omega arith, within-more (length bs) (slice_split p bs) h)
    (onto-within (length bs) b (slice_split p bs) h)

parts-within : (n : ℕ) (ps : List Line) → AreWithin n ps → AreWithin n (lines_of_parts ps)
parts-within n [] h = tt
parts-within n (l ∷ []) h = either (AreWithin n) (length l == 0) [] (l ∷ []) tt h
parts-within n (l ∷ m ∷ ps) h =
    let less : length (take (length l - 1) l) ≤ n = omega (arith, h.0, length-take (length l - 1) l) in
    (either (λ (x : Line). length x ≤ n) (slice_index l (length l - 1) == 13) (take (length l - 1) l) l less h.0, parts-within n (m ∷ ps) h.1)

short-within : (n : ℕ) (ls : List Line) → n ≤ MAX_FILE_BYTES → AreWithin n ls → AreShort ls
short-within n [] le h = tt
short-within n (l ∷ ls) le h = (omega (arith, h.0), short-within n ls le h.1)

pub texts-short : (bs : List ℕ) (xs : List (Bor (List ℕ))) → length bs ≤ MAX_FILE_BYTES → map (λ x. x.now) xs ≡ lines bs → AreShort (texts_of xs)
texts-short bs xs le e =
    subst AreShort (sym e) (short-within (length bs) (lines bs) le (parts-within (length bs) (slice_split (λ b. b == 10) bs) (split-within (λ b. b == 10) bs)))

-- ---- what a text has

pub text-tree : (bs : List ℕ) (res : Result Tree YamlFault) → length bs ≤ MAX_FILE_BYTES → Reads (lines bs) res → IfOk res (λ t. HasTree bs (value_view t))
text-tree bs (Ok t) le h =
    let d = tree-is (lines bs) h.0 (value_view t) h.1 h.2 in
    record { size = le; entries = d.0; end = d.1; parses = d.2; document = d.3 }
text-tree bs (Err e) le h = tt

pub fault-at : (bs : List ℕ) (at : ℕ) (code : Code) → length bs ≤ MAX_FILE_BYTES → StopsAt (lines bs) at code → IsFault bs at code
fault-at bs at code le s =
    let f = stop-is_first (lines bs) at code s in
    at_line le s.before s.stop s.after s.parts s.number
    (λ k le'. good-front (take k s.before) _ (subst IsGood (sym (take-append-drop k s.before)) f.0)) f.1
    (stop-least s.before s.stop s.reader code (lines-stand s.before s.reader s.read) s.fault)

pub nothing-by : (ls : List Line) (r : Reader) (st : State) → r.state ≡ st → read_lines beginning ls ≡ Ok r → finished st ≡ None → Parses ls [] r.end
nothing-by ls r start is e f =
    let h = lines-stand ls r e in
    let empty : h.entries ≡ [] = subst (λ (s : State). StateStands s h.entries) is h.stands in
    subst (λ (es : List Entry). Parses ls es r.end) empty h.parses
nothing-by ls r st is e f = absurd cc

refused-by : (bs : List ℕ) (at : ℕ) (code : Code) → length bs ≤ MAX_FILE_BYTES
    → StopsAt (lines bs) at code ⊎ ((r : Reader) × (read_lines beginning (lines bs) ≡ Ok r) × (finished r.state ≡ None) × (at ≡ 1) × (code ≡ Y12)) → IsFault bs at code
refused-by bs at code le (inl s) = fault-at bs at code le s
refused-by bs at code le (inr h) = no_content le h.0.end (nothing-by (lines bs) h.0 h.0.state refl h.1 h.2) h.3 h.4

pub text-refused : (bs : List ℕ) (res : Result Tree YamlFault) → length bs ≤ MAX_FILE_BYTES → Reads (lines bs) res → IfErr res (RefusedBy bs)
text-refused bs (Ok t) le h = tt
text-refused bs (Err YamlFault.Memory) le h = tt
text-refused bs (Err (YamlFault.Fault code at)) le h = refused-by bs at code le h

no-tree-by : (bs : List ℕ) (v : Value) (at : ℕ) (code : Code) (s : Reader) → read_lines beginning (lines bs) ≡ Ok s → finished s.state ≡ Some v
    → StopsAt (lines bs) at code ⊎ ((r : Reader) × (read_lines beginning (lines bs) ≡ Ok r) × (finished r.state ≡ None) × (at ≡ 1) × (code ≡ Y12)) → ⊥
no-tree-by bs v at code s e f (inl h) = stopped (lines bs) at code h.after s h (ap (read_lines beginning) (sym h.parts) ∙ e)
no-tree-by bs v at code s e f (inr h) =
    let same : s ≡ h.0 = ok_is (read_lines beginning (lines bs)) s h.0 e h.1 in
    let no : Some v ≡ None = sym f ∙ ap (λ (r : Reader). finished r.state) same ∙ h.2 in
    absurd cc

pub text-all : (bs : List ℕ) (res : Result Tree YamlFault) → Reads (lines bs) res → (v : Value) → HasTree bs v → GivesTree v res
text-all bs (Ok t) h v d =
    let a = tree-read (lines bs) d.entries d.end v d.parses d.document in
    let same : h.0 ≡ a.reader = ok_is (read_lines beginning (lines bs)) h.0 a.reader h.1 a.read in
    some_is (value_view t) v (sym h.2 ∙ ap (λ (r : Reader). finished r.state) same ∙ a.tree)
text-all bs (Err YamlFault.Memory) h v d = tt
text-all bs (Err (YamlFault.Fault code at)) h v d =
    let a = tree-read (lines bs) d.entries d.end v d.parses d.document in
    no-tree-by bs v at code a.reader a.read a.tree h
