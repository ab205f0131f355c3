-- The spans of a line's texts are those that its definition finds.
use Rattle.std.proofs.Common.{◌≡◌, ℕ, suc, ◌+◌, ◌-◌, ◌<◌, ◌≤◌, pos, Bool, true, false, cond, List, [], ◌∷◌, ◌++◌, length, drop, Option, Some, None, refl, sym, ◌∙◌, ap, subst}
use Rattle.std.proofs.Common.{append_assoc, arith, rules, ◌==◌, ◌||◌, codes, option_map, IfSome}
use Rattle.std.specs.Prelude.{⊤}
use Rattle.std.proofs.lemmas.List.{append-nil}
use Rattle.std.specs.Str.{bytes_eq}
use Rattle.ci_yaml_lines.specs.Prelude.{SourceLine, Span, Tree, Null as NullTree, the_lemmas, Dash, Value, null, boolean, number, text, node, bytes_of, value_view, quoted}
use Rattle.ci_yaml_lines.specs.Prelude.{is_quote, head_is, tail_of, drop_blanks, count_of, negative_of, number_or_text, plain_value, only_comment, trim_end, place, written_at}
use Rattle.ci_yaml_lines.specs.Prelude.{written, keyed, item, is_dash, unwritten, spaces, is_skipped, Line, place_view, end_view, quoted_view, given_view, LeastPlace, least_place}
use Rattle.ci_yaml_lines.specs.Prelude.{LeastItem, least_item, keyed_view, least_keyed, written_view, least_written, LeastWritten, span_before, texts_in, items_texts, given_texts}
use Rattle.ci_yaml_lines.specs.Prelude.{entries_texts, text_spans, KeyOf, spans_of, scalar_span, scalar_spans, spans_behind, places_spans, list_spans, given_spans, keyed_spans}
use Rattle.ci_yaml_lines.specs.Prelude.{item_spans, entries_spans, content_spans, line_spans}
use Rattle.ci_yaml_lines.specs.declared.tree.Text.{Text}
use Rattle.ci_yaml_lines.specs.declared.tree.Tree.{Text as TextTree}
use Rattle.ci_yaml_lines.specs.declared.flow.Place as code
use Rattle.ci_yaml_lines.specs.declared.quoted.Quoted as parts
use Rattle.ci_yaml_lines.specs.declared.line.Keyed as heads
use Rattle.ci_yaml_lines.specs.declared.written.Written as wholes
use Rattle.ci_yaml_lines.specs.declared.entry.Entry.{Entry}
use Rattle.ci_yaml_lines.specs.Scalar.{Quoted, number_of}
use Rattle.ci_yaml_lines.specs.Line as line
use Rattle.ci_yaml_lines.proofs.Views.{view-Null}
use Rattle.ci_yaml_lines.proofs.SpansTexts.{texts-Text, items_texts-push}
use Rattle.ci_yaml_lines.proofs.SpansLine.{entries-texts-push}
use Rattle.std.proofs.lemmas.Bool.{eqb-false, ne_eqb, or_parts, cond-true, cond-false}
use Rattle.ci_yaml_lines.proofs.Forms.{either}

pub spans-append : (ts us : List Text) → spans_of (ts ++ us) ≡ spans_of ts ++ spans_of us
spans-append [] us = refl
spans-append (t ∷ ts) us = λ i. t.span ∷ spans-append ts us i

-- ---- trees of one level

texts-Null : texts_in NullTree ≡ []
texts-Null = search (rules, the_lemmas)

pub one-text : (t : Text) (span : Span) → t.span ≡ span → spans_of (texts_in (TextTree t)) ≡ span ∷ []
one-text t span is = ap spans_of (texts-Text t) ∙ ap (λ (s : Span). s ∷ []) is

-- ---- plain scalars

-- a value that a plain scalar may have: if it is a text, its own
abbrev PlainOf : List ℕ → Value → Type 0
PlainOf bs null = ⊤
PlainOf bs (boolean b) = ⊤
PlainOf bs (number n) = ⊤
PlainOf bs (text words) = words ≡ bs
PlainOf bs (node kind ms) = ⊥

number-of : (o p : Option ℕ) (bs : List ℕ) → PlainOf bs (number_of o p bs)
number-of (Some n) p bs = tt
number-of None (Some n) bs = tt
number-of None None bs = refl

plain-of : (bs : List ℕ) → PlainOf bs (plain_value bs)
plain-of bs =
    let fourth : Value = cond (bytes_eq bs (codes "0")) (number (pos 0)) (number_or_text bs) in
    let third : Value = cond (bytes_eq bs (codes "null") || bytes_eq bs (codes "~")) null fourth in
    let second : Value = cond (bytes_eq bs (codes "false")) (boolean false) third in
    either (PlainOf bs) (bytes_eq bs (codes "true")) (boolean true) second tt
    (either (PlainOf bs) (bytes_eq bs (codes "false")) (boolean false) third tt
    (either (PlainOf bs) (bytes_eq bs (codes "null") || bytes_eq bs (codes "~")) null fourth tt
    (either (PlainOf bs) (bytes_eq bs (codes "0")) (number (pos 0)) (number_or_text bs) tt (number-of (count_of bs) (negative_of bs) bs))))

plain-is : (bs : List ℕ) (v : Value) → v ≡ plain_value bs → PlainOf bs v
plain-is bs v e = subst (PlainOf bs) (sym e) (plain-of bs)

-- the span of such a value, in a list and alone
plain-span : (at : SourceLine) (bs scalar : List ℕ) (span : Span) (v : Value) → PlainOf scalar v → span ≡ span_before at bs (drop (length scalar) bs)
    → (text_spans span v ≡ scalar_spans at None v bs) × (quoted bs ≡ None → text_spans span v ≡ given_spans at (Some v) bs)
plain-span at bs scalar span null h is = (refl, λ _. refl)
plain-span at bs scalar span (boolean b) h is = (refl, λ _. refl)
plain-span at bs scalar span (number n) h is = (refl, λ _. refl)
plain-span at bs scalar span (text words) h is =
    let here : span ≡ scalar_span at None words bs = is ∙ λ i. span_before at bs (drop (length (sym h i)) bs) in
    (ap (λ (s : Span). s ∷ []) here, λ none. ap (λ (s : Span). s ∷ []) (here ∙ λ i. scalar_span at (sym none i) words bs))
plain-span at bs scalar span (node kind ms) h is = absurd h

-- a place without quotes
pub exact-plain-place : (at : SourceLine) (bs from scalar : List ℕ) (span : Span) (v : Tree) → from ≡ drop_blanks bs → value_view v ≡ plain_value scalar
    → span ≡ span_before at from (drop (length scalar) from) → spans_of (texts_in v) ≡ text_spans span (value_view v) → spans_of (texts_in v) ≡ scalar_spans at None (value_view v) (drop_blanks bs)
exact-plain-place at bs from scalar span v from-is value-is span-is e =
    e ∙ (plain-span at from scalar span (value_view v) (plain-is scalar (value_view v) value-is) span-is).0 ∙ ap (scalar_spans at None (value_view v)) from-is

-- a value without quotes
pub exact-plain : (at : SourceLine) (bs scalar : List ℕ) (span : Span) (v : Tree) → value_view v ≡ plain_value scalar
    → span ≡ span_before at bs (drop (length scalar) bs) → spans_of (texts_in v) ≡ text_spans span (value_view v) → quoted bs ≡ None → spans_of (texts_in v) ≡ given_spans at (Some (value_view v)) bs
exact-plain at bs scalar span v value-is span-is e none =
    e ∙ (plain-span at bs scalar span (value_view v) (plain-is scalar (value_view v) value-is) span-is).1 none

-- ---- quoted scalars

-- a text that begins with no quote
pub unquoted : (bs : List ℕ) → is_quote bs ≡ false → quoted bs ≡ None
unquoted [] e = refl
unquoted (b ∷ bs) e =
    let h = or_parts (39 == b) (34 == b) e in
    cond-false (b == 39) _ _ (ne_eqb b 39 (λ e. eqb-false 39 b h.0 (sym e))) ∙ cond-false (b == 34) _ _ (ne_eqb b 34 (λ e. eqb-false 34 b h.1 (sym e)))

quoted-span : (at : SourceLine) (bs : List ℕ) (q : parts.Quoted) → Some (quoted_view q) ≡ quoted bs → q.text.span ≡ span_before at bs q.rest.now → q.text.span ≡ scalar_span at (quoted bs) (bytes_of q.text) bs
quoted-span at bs q is span = span ∙ ap (λ (o : Option Quoted). scalar_span at o (bytes_of q.text) bs) is

pub exact-quoted-place : (at : SourceLine) (bs from : List ℕ) (q : parts.Quoted) (v : Tree) → from ≡ drop_blanks bs → texts_in v ≡ q.text ∷ [] → value_view v ≡ text (bytes_of q.text)
    → Some (quoted_view q) ≡ quoted from → q.text.span ≡ span_before at from q.rest.now → spans_of (texts_in v) ≡ scalar_spans at (quoted (drop_blanks bs)) (value_view v) (drop_blanks bs)
exact-quoted-place at bs from q v from-is texts value-is is span =
    ap spans_of texts ∙ ap (λ (s : Span). s ∷ []) (quoted-span at from q is span) ∙ λ i. scalar_spans at (quoted (from-is i)) (sym value-is i) (from-is i)

pub exact-no-place : (at : SourceLine) (q : Option Quoted) (bs : List ℕ) → spans_of (texts_in NullTree) ≡ scalar_spans at q (value_view NullTree) bs
exact-no-place at q bs = ap spans_of texts-Null ∙ λ i. scalar_spans at q (sym view-Null i) bs

-- ---- lists

-- one place more
pub exact-turn : (at : SourceLine) (n i : ℕ) (rest : List ℕ) (items more : List Tree) (f : code.Place) (end : line.End) → i < n → more ≡ items ++ f.value ∷ [] → place_view f ≡ least_place (place rest) → end_view f.end ≡ end
    → spans_of (texts_in f.value) ≡ scalar_spans at (quoted (drop_blanks rest)) (value_view f.value) (drop_blanks rest)
    → spans_of (items_texts more) ++ spans_behind end (λ r. places_spans at (n - (i + 1)) r) ≡ spans_of (items_texts items) ++ places_spans at (n - i) rest
exact-turn at n i rest items more f end lt more-is f-is end-is e =
    let one : suc (n - (i + 1)) ≡ n - i = omega arith in
    let behind : line.End → List Span = λ x. spans_behind x (λ r. places_spans at (n - (i + 1)) r) in
    let own : List Span = spans_of (texts_in f.value) in
    let texts : spans_of (items_texts more) ≡ spans_of (items_texts items) ++ own =
    ap spans_of (ap items_texts more-is ∙ items_texts-push items f.value) ∙ spans-append (items_texts items) (texts_in f.value) in
    let value-is : value_view f.value ≡ (place rest).value = ap (λ (p : LeastPlace). p.value) f-is in
    let there : end ≡ (place rest).end = sym end-is ∙ ap (λ (p : LeastPlace). p.end) f-is in
    (λ j. texts j ++ behind end) ∙ append_assoc (spans_of (items_texts items)) own (behind end)
    ∙ (λ j. spans_of (items_texts items) ++ ((e ∙ λ k. scalar_spans at (quoted (drop_blanks rest)) (value-is k) (drop_blanks rest)) j ++ behind (there j)))
    ∙ λ j. spans_of (items_texts items) ++ places_spans at (one j) rest

-- F finds the spans from a place on, with so much fuel: before the first turn, and where no fuel is left
pub at-first : (F : ℕ → List Span) (n : ℕ) (ss : List Span) → ss ≡ [] → ss ++ F (n - 0) ≡ F n
at-first F n ss e = let same : n - 0 ≡ n = omega arith in λ i. e i ++ F (same i)

pub at-last : (F : ℕ → List Span) (n i : ℕ) (ss all : List Span) → F 0 ≡ [] → n ≤ i → ss ++ F (n - i) ≡ all → ss ≡ all
at-last F n i ss all nil le is = let none : 0 ≡ n - i = omega arith in sym (append-nil ss) ∙ (λ j. ss ++ (sym nil ∙ ap F none) j) ∙ is

pub list-by : (at : SourceLine) (bs inner from asked : List ℕ) (t : Bool) → inner ≡ tail_of bs → from ≡ drop_blanks inner → asked ≡ from → t ≡ head_is 93 asked → cond t [] (places_spans at (length bs) inner) ≡ list_spans at bs
list-by at bs inner from asked t inner-is from-is asked-is t-is =
    λ i. cond ((t-is ∙ ap (head_is 93) (asked-is ∙ from-is ∙ ap drop_blanks inner-is)) i) [] (places_spans at (length bs) (inner-is i))

-- ---- what is written

-- a quoted value
pub exact-quoted : (at : SourceLine) (bs : List ℕ) (q : parts.Quoted) (ts : List Text) → ts ≡ q.text ∷ [] → Some (quoted_view q) ≡ quoted bs → q.text.span ≡ span_before at bs q.rest.now
    → least_written (line.written_quoted (Some (quoted_view q))) ≡ least_written (written_at bs) → spans_of ts ≡ given_spans at (written_at bs).given bs
exact-quoted at bs q ts texts is span at-is =
    ap spans_of texts ∙ ap (λ (s : Span). s ∷ []) (quoted-span at bs q is span) ∙ λ i. given_spans at (at-is i).given bs

-- an empty value: a header's, or that of a quoted scalar that isn't closed
pub exact-nothing : (at : SourceLine) (bs : List ℕ) (ss : List Span) (w : LeastWritten) → quoted bs ≡ None → w.given ≡ Some (text []) → w ≡ least_written (written_at bs) → ss ≡ span_before at bs bs ∷ []
    → ss ≡ given_spans at (written_at bs).given bs
exact-nothing at bs ss w none empty is e =
    e ∙ (λ i. scalar_span at (sym none i) [] bs ∷ []) ∙ λ i. given_spans at ((sym empty ∙ λ j. (is j).given) i) bs

header-by : (bs : List ℕ) → (line.header_of bs).given ≡ Some (text [])
header-by [] = refl
header-by (b ∷ bs) =
    either (λ (w : line.Written). w.given ≡ Some (text [])) (b == 45) (line.header_rest line.strip 45 bs) (cond (b == 43) (line.header_rest line.keep 43 bs) (line.header_rest line.clip 124 (b ∷ bs))) refl
    (either (λ (w : line.Written). w.given ≡ Some (text [])) (b == 43) (line.header_rest line.keep 43 bs) (line.header_rest line.clip 124 (b ∷ bs)) refl refl)

pub header-given : (bs : List ℕ) (w : wholes.Written) → written_view w ≡ least_written (line.header_of bs) → (written_view w).given ≡ Some (text [])
header-given bs w is = ap (λ (x : LeastWritten). x.given) is ∙ header-by bs

-- any other
pub exact-given : (at : SourceLine) (bs : List ℕ) (ss : List Span) (w : LeastWritten) (v : Option Value) → w.given ≡ v → w ≡ least_written (written_at bs) → ss ≡ given_spans at v bs → ss ≡ given_spans at (written_at bs).given bs
exact-given at bs ss w v v-is is e = e ∙ λ i. given_spans at ((sym v-is ∙ λ j. (is j).given) i) bs

pub exact-unwritten : (at : SourceLine) (last : ℕ) (bs asked : List ℕ) → asked ≡ bs → true ≡ only_comment last asked → [] ≡ given_spans at (written last bs).given (drop_blanks bs)
exact-unwritten at last bs asked is e = λ i. given_spans at (cond ((e ∙ ap (only_comment last) is) i) (unwritten []) (written_at (drop_blanks bs))).given (drop_blanks bs)

pub exact-written : (at : SourceLine) (last : ℕ) (bs asked from : List ℕ) (ss : List Span) → asked ≡ bs → false ≡ only_comment last asked → from ≡ drop_blanks bs → ss ≡ given_spans at (written_at from).given from
    → ss ≡ given_spans at (written last bs).given (drop_blanks bs)
exact-written at last bs asked from ss is away from-is e =
    e ∙ (λ i. given_spans at (written_at (from-is i)).given (from-is i))
    ∙ λ i. given_spans at (cond ((away ∙ ap (only_comment last) is) i) (unwritten []) (written_at (drop_blanks bs))).given (drop_blanks bs)

-- ---- keys

pub exact-quoted-key : (at : SourceLine) (bs : List ℕ) (q : Option parts.Quoted) (k : Option heads.Keyed) → option_map quoted_view q ≡ quoted bs → IfSome q (λ x. x.text.span ≡ span_before at bs x.rest.now) → KeyOf q k
    → IfSome k (λ x. x.name.span ≡ scalar_span at (quoted bs) (bytes_of x.name) bs)
exact-quoted-key at bs q None is span key = tt
exact-quoted-key at bs None (Some k) is span key = absurd key
exact-quoted-key at bs (Some q) (Some k) is span key =
    ap (λ (t : Text). t.span) key.0 ∙ span ∙ λ i. scalar_span at (is i) (bytes_of k.name) bs

pub exact-plain-key : (at : SourceLine) (bs : List ℕ) (k : Option heads.Keyed) → quoted bs ≡ None → IfSome k (λ x. x.name.span ≡ scalar_span at None (bytes_of x.name) bs)
    → IfSome k (λ x. x.name.span ≡ scalar_span at (quoted bs) (bytes_of x.name) bs)
exact-plain-key at bs None none span = tt
exact-plain-key at bs (Some k) none span = span ∙ λ i. scalar_span at (sym none i) (bytes_of k.name) bs

-- ---- entries

pub exact-item : (at : SourceLine) (bs : List ℕ) (w : wholes.Written) → written_view w ≡ least_written (written 45 bs) → spans_of (given_texts w.given) ≡ given_spans at (written 45 bs).given (drop_blanks bs)
    → spans_of (given_texts w.given) ≡ given_spans at (given_view w.given) (drop_blanks bs)
exact-item at bs w is e = e ∙ λ i. given_spans at (sym is i).given (drop_blanks bs)

pub exact-keyed : (at : SourceLine) (bs : List ℕ) (k : heads.Keyed) (n : Option line.Keyed) → Some (keyed_view k) ≡ option_map least_keyed n → k.name.span ≡ scalar_span at (quoted bs) (bytes_of k.name) bs
    → (k.name.span ∷ given_spans at (written 58 k.rest.now).given (drop_blanks k.rest.now)) ≡ keyed_spans at n bs
exact-keyed at bs k None e span = absurd cc
exact-keyed at bs k (Some n) e span =
    let same : keyed_view k ≡ least_keyed n = cc in
    (λ i. span i ∷ given_spans at (written 58 k.rest.now).given (drop_blanks k.rest.now))
    ∙ λ i. scalar_span at (quoted bs) (same i).name bs ∷ given_spans at (written 58 (same i).rest).given (drop_blanks (same i).rest)

pub exact-bare : (at : SourceLine) (bs : List ℕ) (n : Option line.Keyed) → None ≡ option_map least_keyed n → given_spans at (written_at bs).given bs ≡ keyed_spans at n bs
exact-bare at bs None e = refl
exact-bare at bs (Some n) e = absurd cc

pub exact-more : (ts us all : List Text) (given : List Span) → spans_of us ≡ given → all ≡ ts ++ us → spans_of all ≡ spans_of ts ++ given
exact-more ts us all given g e = ap spans_of e ∙ spans-append ts us ∙ λ i. spans_of ts ++ g i

-- what a text says from a place on, with one more turn of fuel
turn-by : (at : SourceLine) (n i : ℕ) (w : List ℕ) (t : Bool) → i < n → is_dash w ≡ t
    → cond t (item_spans at (item (tail_of w)) (tail_of w) (λ r. entries_spans at (n - (i + 1)) r)) (keyed_spans at (keyed w) w) ≡ entries_spans at (n - i) w
turn-by at n i w t lt e =
    let one : suc (n - (i + 1)) ≡ n - i = omega arith in
    (λ j. cond (sym e j) (item_spans at (item (tail_of w)) (tail_of w) (λ r. entries_spans at (n - (i + 1)) r)) (keyed_spans at (keyed w) w)) ∙ λ j. entries_spans at (one j) w

pub exact-stop : (at : SourceLine) (n i : ℕ) (w : List ℕ) → i < n → is_dash w ≡ false → keyed_spans at (keyed w) w ≡ entries_spans at (n - i) w
exact-stop at n i w lt e = turn-by at n i w false lt e

item-value : (at : SourceLine) (i : line.Item) (v : LeastWritten) (bs : List ℕ) (more : List ℕ → List Span) → LeastItem.value v ≡ least_item i → given_spans at v.given (drop_blanks bs) ≡ item_spans at i bs more
item-value at (line.inner k t) v bs more e = absurd cc
item-value at (line.value x) v bs more e = let same : v ≡ least_written x = cc in λ j. given_spans at (same j).given (drop_blanks bs)

pub exact-value : (at : SourceLine) (n i : ℕ) (w r : List ℕ) (v : LeastWritten) → i < n → is_dash w ≡ true → r ≡ tail_of w → LeastItem.value v ≡ least_item (item r)
    → given_spans at v.given (drop_blanks r) ≡ entries_spans at (n - i) w
exact-value at n i w r v lt e r-is v-is =
    item-value at (item r) v r (λ x. entries_spans at (n - (i + 1)) x) v-is ∙ (λ j. item_spans at (item (r-is j)) (r-is j) (λ x. entries_spans at (n - (i + 1)) x)) ∙ turn-by at n i w true lt e

item-inner : (at : SourceLine) (i : line.Item) (k : ℕ) (t bs : List ℕ) (more : List ℕ → List Span) → LeastItem.inner k t ≡ least_item i → more t ≡ item_spans at i bs more
item-inner at (line.value x) k t bs more e = absurd cc
item-inner at (line.inner m u) k t bs more e = let same : t ≡ u = cc in ap more same

pub exact-inner : (at : SourceLine) (n i k : ℕ) (w r t : List ℕ) → i < n → is_dash w ≡ true → r ≡ tail_of w → LeastItem.inner k t ≡ least_item (item r) → entries_spans at (n - (i + 1)) t ≡ entries_spans at (n - i) w
exact-inner at n i k w r t lt e r-is t-is =
    item-inner at (item (tail_of w)) k t (tail_of w) (λ x. entries_spans at (n - (i + 1)) x) (t-is ∙ λ j. least_item (item (r-is j))) ∙ turn-by at n i w true lt e

no-spans : (es : List Entry) → es ≡ [] → spans_of (entries_texts es) ≡ []
no-spans es e = λ i. spans_of (entries_texts (e i))

-- a dash more, which has no text
pub exact-dash : (es fs : List Entry) (c : ℕ) (more : List Span) → fs ≡ es ++ (record { column = c; head = Dash; given = None }) ∷ [] → spans_of (entries_texts fs) ++ more ≡ spans_of (entries_texts es) ++ more
exact-dash es fs c more e =
    ap (λ (ts : List Text). spans_of ts ++ more) (ap entries_texts e ∙ entries-texts-push es (record { column = c; head = Dash; given = None }) ∙ append-nil (entries_texts es))

-- ---- lines

pub exact-tab : (at : SourceLine) (bs asked : List ℕ) (es : List Entry) → es ≡ [] → asked ≡ bs → true ≡ head_is 9 asked → spans_of (entries_texts es) ≡ content_spans at bs
exact-tab at bs asked es none is e = no-spans es none ∙ sym (cond-true (head_is 9 bs) _ _ (sym (e ∙ ap (head_is 9) is)))

pub exact-content : (at : SourceLine) (bs asked : List ℕ) (es fs : List Entry) → es ≡ fs → asked ≡ bs → false ≡ head_is 9 asked → spans_of (entries_texts fs) ≡ entries_spans at (length bs + 1) bs → spans_of (entries_texts es) ≡ content_spans at bs
exact-content at bs asked es fs same is away e =
    let one : length bs + 1 ≡ suc (length bs) = omega arith in
    (λ i. spans_of (entries_texts (same i))) ∙ e ∙ (λ i. entries_spans at (one i) bs) ∙ sym (cond-false (head_is 9 bs) _ _ (sym (away ∙ ap (head_is 9) is)))

pub exact-skipped : (n : ℕ) (l : Line) (es : List Entry) → es ≡ [] → true ≡ is_skipped l → spans_of (entries_texts es) ≡ line_spans n l
exact-skipped n l es none e = no-spans es none ∙ sym (cond-true (is_skipped l) _ _ (sym e))

pub exact-line : (n column : ℕ) (l w : List ℕ) (es fs : List Entry) → es ≡ fs → column ≡ spaces l → w ≡ trim_end (drop (spaces l) l) → false ≡ is_skipped l
    → spans_of (entries_texts fs) ≡ content_spans (record { line = n; end = column + length w }) w → spans_of (entries_texts es) ≡ line_spans n l
exact-line n column l w es fs same column-is w-is away e =
    (λ i. spans_of (entries_texts (same i))) ∙ e ∙ (λ i. content_spans (record { line = n; end = column-is i + length (w-is i) }) (w-is i)) ∙ sym (cond-false (is_skipped l) _ _ (sym away))
