-- Lines have one list of spans, and what is read has it.
use Rattle.std.proofs.Common.{◌≡◌, ℕ, zero, suc, ◌+◌, Bool, true, false, cond, List, [], ◌∷◌, ◌++◌, length, drop, Option, Some, None, refl, sym, ◌∙◌, ap, subst, is_some, ◌||◌}
use Rattle.std.specs.Prelude.{⊤}
use Rattle.ci_yaml.specs.Prelude.{Y2, SourceLine, Span, Text, Tree, Tree-F, roll-Tree, ind-Tree, fold-roll-Tree, Value, text, value_view, view_step, texts_in, texts_step}
use Rattle.ci_yaml.specs.Prelude.{given_view, head_is, tail_of, trim_end, only_comment, drop_blanks, Line, ParsedLine, parse_line, parse_content, parse_entries, keyed_or_bare}
use Rattle.ci_yaml.specs.Prelude.{keyed, Keyed, written, written_at, unwritten, Item, inner, value, item, dashed, is_dash, spaces, is_skipped, given_texts, spans_of, given_spans}
use Rattle.ci_yaml.specs.Prelude.{keyed_spans, item_spans, entries_spans, content_spans, line_spans, whole, inside, last_column, with_last, HaveSpans}
use Rattle.ci_yaml_lines.specs.declared.tree.Tree.{Text as TextTree}
use Rattle.ci_yaml.specs.Reading as frames
use Rattle.ci_yaml_lines.specs.Prelude.{Chomp}
use Rattle.ci_yaml.specs.TextSpans.{none, line, block}
use Rattle.ci_yaml_lines.proofs.Forms.{either, written_at-each, written-each}
use Rattle.ci_yaml_lines.proofs.SpansOf.{spans-append}
use Rattle.ci_yaml_lines.proofs.SpansTexts.{texts-Text}
use Rattle.ci_yaml.proofs.Headers.{HasText, WrittenFits, forms-fit}
use Rattle.ci_yaml.proofs.LeastCodes.{front-same}

-- ---- one list

pub spans-same : (n : ℕ) (ls : List Line) (a b : List Span) → HaveSpans n ls a → HaveSpans n ls b → a ≡ b
spans-same n ls a b (none n') (none m') = refl
spans-same n ls a b (line n' l rest more all header have is) (line m' l2 rest2 more2 all2 header2 have2 is2) = rw (is, spans-same (suc n) rest more more2 have have2) (sym is2)
spans-same n ls a b (line _ _ _ _ _ no_header _ _) (block _ _ _ _ _ how _ _ header _ _ _ _ _) = let no : Some how ≡ None = sym header ∙ no_header in absurd cc
spans-same n ls a b (block _ _ _ _ _ how _ _ header _ _ _ _ _) (line _ _ _ _ _ no_header _ _) = let no : Some how ≡ None = sym header ∙ no_header in absurd cc
spans-same n ls a b (block _ l lines rest _ _ more _ _ parts are ends have is) (block _ _ lines2 rest2 _ _ more2 _ _ parts2 are2 ends2 have2 is2) =
    let f = front-same (last_column (parse_line l).entries) [] lines lines2 rest rest2 are are2 ends ends2 (sym parts ∙ parts2) in
    rw (is, spans-same (suc n + length lines) rest more more2 have (rw (f.0, f.1) have2), f.0) (sym is2)

-- ---- a line with a header has a span

abbrev NotNil : List Span → Type 0
NotNil [] = ⊥
NotNil (s ∷ ss) = ⊤

abbrev SomeBy : Option Chomp → List Span → Type 0
SomeBy None ss = ⊤
SomeBy (Some how) ss = NotNil ss

both : {A B : Type 0} (P : A → B → Type 0) (b : Bool) (x y : A) (u v : B) → P x u → P y v → P (cond b x y) (cond b u v)
both P true x y u v p q = p
both P false x y u v p q = q

given-some : (at : SourceLine) (bs : List ℕ) (h : Option Chomp) (g : Option Value) → HasText h g → SomeBy h (given_spans at g bs)
given-some at bs None g p = tt
given-some at bs (Some how) g p = subst (λ (o : Option Value). NotNil (given_spans at o bs)) (sym p) tt

more-some : (h : Option Chomp) (s : Span) (ss : List Span) → SomeBy h (s ∷ ss)
more-some None s ss = tt
more-some (Some how) s ss = tt

keyed-some : (at : SourceLine) (c : ℕ) (w : List ℕ) (k : Option Keyed) → SomeBy (keyed_or_bare c w k).header (keyed_spans at k w)
keyed-some at c w None = given-some at w (written_at w).header (written_at w).given (written_at-each WrittenFits forms-fit w)
keyed-some at c w (Some k) = more-some (written 58 k.rest).header _ _

abbrev ItemFits : Item → Type 0
ItemFits (inner k t) = ⊤
ItemFits (value w) = HasText w.header w.given

item-fits : (r : List ℕ) → ItemFits (item r)
item-fits r =
    let more : List ℕ = drop (spaces r) r in
    let last : Item = cond (is_dash more || is_some (keyed more)) (inner (1 + spaces r) more) (value (written 45 r)) in
    let tab : Item = cond (head_is 9 more) (value (unwritten (Y2 ∷ []))) last in
    either ItemFits (only_comment 45 r) (value (unwritten [])) tab tt
    (either ItemFits (head_is 9 more) (value (unwritten (Y2 ∷ []))) last tt
    (either ItemFits (is_dash more || is_some (keyed more)) (inner (1 + spaces r) more) (value (written 45 r)) tt (written-each WrittenFits forms-fit tt 45 r)))

dashed-some : (at : SourceLine) (c : ℕ) (i : Item) (r : List ℕ) (says : ℕ → List ℕ → ParsedLine) (spans : List ℕ → List Span) → ItemFits i → ((d : ℕ) (t : List ℕ) → SomeBy (says d t).header (spans t))
    → SomeBy (dashed c i says).header (item_spans at i r spans)
dashed-some at c (inner k t) r says spans fits more = more (c + k) t
dashed-some at c (value w) r says spans fits more = given-some at (drop_blanks r) w.header w.given fits

entries-some : (at : SourceLine) (n c : ℕ) (w : List ℕ) → SomeBy (parse_entries n c w).header (entries_spans at n w)
entries-some at zero c w = tt
entries-some at (suc n) c w =
    both (λ (s : ParsedLine) (ss : List Span). SomeBy s.header ss) (is_dash w) (dashed c (item (tail_of w)) (λ d t. parse_entries n d t)) (keyed_or_bare c w (keyed w))
    (item_spans at (item (tail_of w)) (tail_of w) (λ t. entries_spans at n t)) (keyed_spans at (keyed w) w)
    (dashed-some at c (item (tail_of w)) (tail_of w) (λ d t. parse_entries n d t) (λ t. entries_spans at n t) (item-fits (tail_of w)) (λ d t. entries-some at n d t)) (keyed-some at c w (keyed w))

content-some : (at : SourceLine) (c : ℕ) (w : List ℕ) → SomeBy (parse_content c w).header (content_spans at w)
content-some at c w = both (λ (s : ParsedLine) (ss : List Span). SomeBy s.header ss) (head_is 9 w) _ _ [] (entries_spans at (suc (length w)) w) tt (entries-some at (suc (length w)) c w)

line-some : (n : ℕ) (l : Line) → SomeBy (parse_line l).header (line_spans n l)
line-some n l =
    let w : List ℕ = trim_end (drop (spaces l) l) in
    let at : SourceLine = record { line = n; end = spaces l + length w } in
    both (λ (s : ParsedLine) (ss : List Span). SomeBy s.header ss) (is_skipped l) (record { entries = []; header = None; codes = [] }) (parse_content (spaces l) w) [] (content_spans at w) tt (content-some at (spaces l) w)

pub header-some : (n : ℕ) (l : Line) (how : Chomp) → (parse_line l).header ≡ Some how → NotNil (line_spans n l)
header-some n l how is = subst (λ (h : Option Chomp). SomeBy h (line_spans n l)) is (line-some n l)

pub last-behind : (s : Span) (a b : List Span) → NotNil b → with_last s (a ++ b) ≡ a ++ with_last s b
last-behind s [] b some = refl
last-behind s (x ∷ []) [] some = absurd some
last-behind s (x ∷ []) (y ∷ b) some = refl
last-behind s (x ∷ y ∷ a) b some = ap (λ (ss : List Span). x ∷ ss) (last-behind s (y ∷ a) b some)

-- ---- a text for the last value

abbrev IsText : Value → Type 0
IsText (text bs) = ⊤
IsText v = ⊥

abbrev OneText : Tree → Type 0
OneText t = IsText (value_view t) → (x : Text) × (texts_in t ≡ x ∷ [])

one-by : (f : Tree-F Tree) → OneText (roll-Tree f)
one-by (Tree-F.Text t) h = (t, fold-roll-Tree (List Text) texts_step (Tree-F.Text t))
one-by f h = absurd (subst IsText (fold-roll-Tree Value view_step f) h)

one-text : (t : Tree) → OneText t
one-text = ind-Tree OneText (λ x y is. one-by x)

pub last-whole : (t : Tree) (u : Text) (bs : List ℕ) → whole (value_view t) ≡ whole (text bs) → spans_of (texts_in (TextTree u)) ≡ with_last u.span (spans_of (texts_in t))
last-whole t u bs e =
    let same : text bs ≡ value_view t = cc in
    let h = one-text t (subst IsText same tt) in
    ap spans_of (texts-Text u) ∙ sym (ap (λ (ts : List Text). with_last u.span (spans_of ts)) h.1)

given-one : (g : Option Tree) (fs : List frames.Frame) (bs : List ℕ) → inside fs (given_view g) ≡ inside fs (Some (text bs)) → (x : Text) × (given_texts g ≡ x ∷ [])
given-one None fs bs e = absurd cc
given-one (Some t) fs bs e = let same : text bs ≡ value_view t = cc in one-text t (subst IsText same tt)

pub last-inside : (ts : List Text) (g : Option Tree) (fs : List frames.Frame) (u : Text) (bs : List ℕ) → inside fs (given_view g) ≡ inside fs (Some (text bs))
    → spans_of (ts ++ texts_in (TextTree u)) ≡ with_last u.span (spans_of (ts ++ given_texts g))
last-inside ts g fs u bs e =
    let h = given-one g fs bs e in
    ap (λ (x : List Text). spans_of (ts ++ x)) (texts-Text u) ∙ spans-append ts (u ∷ []) ∙ sym (last-behind u.span (spans_of ts) (h.0.span ∷ []) tt)
    ∙ ap (with_last u.span) (sym (spans-append ts (h.0 ∷ []))) ∙ ap (λ (x : List Text). with_last u.span (spans_of (ts ++ x))) (sym h.1)
