-- What a line says, from what its parts say.
use Rattle.std.proofs.Common.{◌≡◌, ℕ, suc, ◌+◌, ◌-◌, ◌<◌, ◌≤◌, Bool, true, false, cond, List, [], ◌∷◌, ◌++◌, length, map, drop, Option, Some, None, refl, sym, ◌∙◌, ap}
use Rattle.std.proofs.Common.{append_assoc, arith, length-drop, length-take, ◌==◌, ◌&&◌, ◌||◌, option_map, is_some}
use Rattle.std.proofs.lemmas.Bool.{cond-true, cond-false}
use Rattle.std.proofs.lemmas.List.{append-nil}
use Rattle.std.proofs.lemmas.List.Sums.{prefix_len-le-length}
use Rattle.ci_yaml_lines.specs.Prelude.{Value, LeastListed, LeastPlace, no_members, member, with_place, joined, MAX_FILE_BYTES, Code, Y2, Y8, Y9, Tree, push, node, sequence}
use Rattle.ci_yaml_lines.specs.Prelude.{Members, least, least_of, dash, key, bare, drop_blanks, only_comment, head_is, tail_of, trim_end, trimmed_len, before_comment, is_quote}
use Rattle.ci_yaml_lines.specs.Prelude.{quoted, when, item, parse_entries, keyed_or_bare, keyed, unwritten, written, written_at, header_code, is_dash, is_document_mark}
use Rattle.ci_yaml_lines.specs.Prelude.{parse_content, parse_line, is_skipped, has_control, has_byte_order_mark, spaces, is_space, place, places, after_place, value_view}
use Rattle.ci_yaml_lines.specs.Prelude.{items_view, entry_view, place_view, end_view, keyed_view, least_keyed, LeastKeyed, LeastWritten, least_written, written_of_list, least_item}
use Rattle.ci_yaml_lines.specs.Prelude.{LeastParsed, least_parsed, with_entries, least_entry, key_parsed, bare_parsed, with_places, least_listed, least_place}
use Rattle.ci_yaml_lines.specs.Line.{Listed, Item}
use Rattle.ci_yaml_lines.proofs.Leasts.{least_of_three, least_append, least_of_none}
use Rattle.ci_yaml_lines.specs.declared.line.Keyed.{Keyed}
use Rattle.ci_yaml_lines.specs.declared.flow.Place as code
use Rattle.ci_yaml_lines.specs.declared.entry.Entry as parts
use Rattle.ci_yaml_lines.specs.Entry.{Entry}
use Rattle.ci_yaml_lines.specs.Scalar.{Quoted}
use Rattle.ci_yaml_lines.specs.Line as line
use Rattle.ci_yaml_lines.specs.View.{inner, value}
use Rattle.ci_yaml_lines.proofs.Views.{items-push, view-Text}

pub some-same : (k : Option Keyed) (n : Option line.Keyed) → option_map keyed_view k ≡ option_map least_keyed n → is_some k ≡ is_some n
some-same None None e = refl
some-same None (Some n) e = absurd cc
some-same (Some k) None e = absurd cc
some-same (Some k) (Some n) e = refl

abbrev parsed : List Entry → Option line.Chomp → Option Code → LeastParsed
parsed es h o = record { entries = es; header = h; code = o }

pub key-parsed : (c : ℕ) (w : List ℕ) (k : LeastKeyed) (n : Option line.Keyed) → Some k ≡ option_map least_keyed n → key_parsed c k ≡ least_parsed (keyed_or_bare c w n)
key-parsed c w k None e = absurd cc
key-parsed c w k (Some n) e =
    let same : k ≡ least_keyed n = cc in
    ap (key_parsed c) same
    ∙ ap (parsed ((record { column = c; head = key n.name; given = (written 58 n.rest).given }) ∷ []) (written 58 n.rest).header) (sym (least_append n.codes (written 58 n.rest).codes))

pub bare-parsed : (c : ℕ) (w : List ℕ) (v : LeastWritten) (n : Option line.Keyed) → None ≡ option_map least_keyed n → v ≡ least_written (written_at w) → bare_parsed c v ≡ least_parsed (keyed_or_bare c w n)
bare-parsed c w v (Some n) e is = absurd cc
bare-parsed c w v None e is =
    ap (bare_parsed c) is
    ∙ ap (parsed ((record { column = c; head = bare; given = (written_at w).given }) ∷ []) (written_at w).header) (sym (least_append (header_code (written_at w).header) (written_at w).codes))

dash-stop : (n c : ℕ) (w : List ℕ) → is_dash w ≡ false → parse_entries (suc n) c w ≡ keyed_or_bare c w (keyed w)
dash-stop n c w e = cond-false (is_dash w) _ _ e

dash-on : (n c : ℕ) (w : List ℕ) → is_dash w ≡ true → parse_entries (suc n) c w ≡ line.dashed c (item (tail_of w)) (λ d t. parse_entries n d t)
dash-on n c w e = cond-true (is_dash w) _ _ e

abbrev dash_at : ℕ → Entry
dash_at c = record { column = c; head = dash; given = None }

value-by : (n c : ℕ) (i : Item) (v : LeastWritten) → value v ≡ least_item i → least_entry c dash v None ≡ least_parsed (line.dashed c i (λ d t. parse_entries n d t))
value-by n c (line.inner k t) v e = absurd cc
value-by n c (line.value x) v e = let same : v ≡ least_written x = cc in λ i. least_entry c dash (same i) None

inner-by : (n c k : ℕ) (t : List ℕ) (i : Item) → inner k t ≡ least_item i → with_entries (dash_at c ∷ []) (least_parsed (parse_entries n (c + k) t)) ≡ least_parsed (line.dashed c i (λ d t. parse_entries n d t))
inner-by n c k t (line.value x) e = absurd cc
inner-by n c k t (line.inner m u) e =
    let same_k : k ≡ m = cc in
    let same_t : t ≡ u = cc in
    λ i. with_entries (dash_at c ∷ []) (least_parsed (parse_entries n (c + same_k i) (same_t i)))

-- what is said from a place on, with one more turn of fuel
pub stop-turn : (es : List Entry) (n i c : ℕ) (w : List ℕ) → i < n → is_dash w ≡ false → with_entries es (least_parsed (keyed_or_bare c w (keyed w))) ≡ with_entries es (least_parsed (parse_entries (n - i) c w))
stop-turn es n i c w lt e =
    let one : suc (n - (i + 1)) ≡ n - i = omega arith in
    λ j. with_entries es (least_parsed ((sym (dash-stop (n - (i + 1)) c w e) ∙ λ k. parse_entries (one k) c w) j))

-- the same of a dash, where each further text of entries is known
dash-turn : (es : List Entry) (n i c : ℕ) (w r : List ℕ) (s : LeastParsed) → i < n → is_dash w ≡ true → r ≡ tail_of w → s ≡ least_parsed (line.dashed c (item r) (λ d t. parse_entries (n - (i + 1)) d t))
    → with_entries es s ≡ with_entries es (least_parsed (parse_entries (n - i) c w))
dash-turn es n i c w r s lt e r-is is =
    let one : suc (n - (i + 1)) ≡ n - i = omega arith in
    ap (with_entries es) (is ∙ (λ j. least_parsed (line.dashed c (item (r-is j)) (λ d t. parse_entries (n - (i + 1)) d t))) ∙ ap least_parsed (sym (dash-on (n - (i + 1)) c w e) ∙ λ k. parse_entries (one k) c w))

pub value-turn : (es : List Entry) (n i c : ℕ) (w r : List ℕ) (v : LeastWritten) → i < n → is_dash w ≡ true → r ≡ tail_of w → value v ≡ least_item (item r)
    → with_entries es (least_entry c dash v None) ≡ with_entries es (least_parsed (parse_entries (n - i) c w))
value-turn es n i c w r v lt e r-is v-is = dash-turn es n i c w r (least_entry c dash v None) lt e r-is (value-by (n - (i + 1)) c (item r) v v-is)

entries-more : (es : List Entry) (e : Entry) (s : LeastParsed) → with_entries (es ++ e ∷ []) s ≡ with_entries es (with_entries (e ∷ []) s)
entries-more es e s = λ i. parsed (append_assoc es (e ∷ []) s.entries i) s.header s.code

pub inner-turn : (es fs : List Entry) (n i c k : ℕ) (w r t : List ℕ) → i < n → is_dash w ≡ true → r ≡ tail_of w → inner k t ≡ least_item (item r) → fs ≡ es ++ dash_at c ∷ []
    → with_entries fs (least_parsed (parse_entries (n - (i + 1)) (c + k) t)) ≡ with_entries es (least_parsed (parse_entries (n - i) c w))
inner-turn es fs n i c k w r t lt e r-is t-is fs-is =
    let s : LeastParsed = least_parsed (parse_entries (n - (i + 1)) (c + k) t) in
    (λ j. with_entries (fs-is j) s) ∙ entries-more es (dash_at c) s
    ∙ dash-turn es n i c w r (with_entries (dash_at c ∷ []) s) lt e r-is (inner-by (n - (i + 1)) c k t (item r) t-is)

pub end-turn : (es : List Entry) (n i c : ℕ) (w : List ℕ) → n ≤ i → parsed es None None ≡ with_entries es (least_parsed (parse_entries (n - i) c w))
end-turn es n i c w le =
    let none : n - i ≡ 0 = omega arith in
    (λ j. parsed (sym (append-nil es) j) None None) ∙ λ j. with_entries es (least_parsed (parse_entries (sym none j) c w))

-- with a code of its own before those of what it says
with-code : (m : Option Code) (s : LeastParsed) (cs : List Code) (t : line.ParsedLine) → m ≡ least cs → s ≡ least_parsed t → parsed s.entries s.header (least_of m s.code) ≡ least_parsed (line.with_codes cs t)
with-code m s cs t m-is s-is = (λ i. parsed (s-is i).entries (s-is i).header (least_of (m-is i) (s-is i).code)) ∙ λ i. parsed t.entries t.header (sym (least_append cs t.codes) i)

pub content-parsed : (c : ℕ) (w : List ℕ) (m : Option Code) (s : LeastParsed) → head_is 9 w ≡ false → m ≡ least (when ((c == 0) && is_document_mark w) Y9) → s ≡ least_parsed (parse_entries (suc (length w)) c w)
    → parsed s.entries s.header (least_of m s.code) ≡ least_parsed (parse_content c w)
content-parsed c w m s e m-is s-is =
    with-code m s (when ((c == 0) && is_document_mark w) Y9) (parse_entries (suc (length w)) c w) m-is s-is ∙ ap least_parsed (sym (cond-false (head_is 9 w) _ _ e))

pub line-fits : (bs : List ℕ) → length bs ≤ MAX_FILE_BYTES → spaces bs + length (trim_end (drop (spaces bs) bs)) ≤ MAX_FILE_BYTES
line-fits bs le = omega (arith, prefix_len-le-length is_space bs, length-take (trimmed_len (drop (spaces bs) bs)) (drop (spaces bs) bs), length-drop (spaces bs) bs)

-- ---- one place after the other

joined-push : (ms : Members) (v : Value) (ns : Members) → joined (push ms [] v) ns ≡ joined ms (member [] v ns)
joined-push no_members v ns = refl
joined-push (member n w ms) v ns = ap (member n w) (joined-push ms v ns)

joined-nil : (ms : Members) → joined ms no_members ≡ ms
joined-nil no_members = refl
joined-nil (member n w ms) = ap (member n w) (joined-nil ms)

abbrev pub list_of : Members → Option (List ℕ) → Option Code → LeastListed
list_of m r o = record { members = m; rest = r; code = o }

step : (ms : Members) (code : Option Code) (v : Value) (cs : List Code) (l : Listed) → with_places (push ms [] v) (least_of code (least cs)) (least_listed l) ≡ with_places ms code (least_listed (with_place v cs l))
step ms code v cs l =
    λ i. list_of (joined-push ms v l.members i) l.rest ((sym (least_of_three code (least cs) (least l.codes)) ∙ λ j. least_of code (sym (least_append cs l.codes) j)) i)

places-end : (ms : Members) (code : Option Code) (r : Option (List ℕ)) (o : Option Code) → with_places ms code (list_of no_members r o) ≡ list_of ms r (least_of code o)
places-end ms code r o = λ i. list_of (joined-nil ms i) r (least_of code o)

-- one more place
place-turn : (m : ℕ) (rest : List ℕ) (ms : Members) (code : Option Code) (p : LeastPlace) → p ≡ least_place (place rest)
    → with_places (push ms [] p.value) (least_of code p.code) (least_listed (after_place p.end (λ r. places m r))) ≡ with_places ms code (least_listed (places (suc m) rest))
place-turn m rest ms code p e =
    (λ i. with_places (push ms [] (e i).value) (least_of code (e i).code) (least_listed (after_place (e i).end (λ r. places m r))))
    ∙ step ms code (place rest).value (place rest).codes (after_place (place rest).end (λ r. places m r))

-- the same as the code reads it
pub place-next : (items more : List Tree) (f : code.Place) (o p : Option Code) (rest : List ℕ) (n i : ℕ) (end : line.End) → i < n → more ≡ items ++ f.value ∷ [] → p ≡ least_of o f.code → place_view f ≡ least_place (place rest)
    → end_view f.end ≡ end → with_places (items_view more) p (least_listed (after_place end (λ r. places (n - (i + 1)) r))) ≡ with_places (items_view items) o (least_listed (places (n - i) rest))
place-next items more f o p rest n i end lt more-is p-is f-is end-is =
    let one : suc (n - (i + 1)) ≡ n - i = omega arith in
    let items-are : items_view more ≡ push (items_view items) [] (value_view f.value) = ap items_view more-is ∙ items-push items f.value in
    (λ j. with_places (items-are j) (p-is j) (least_listed (after_place (sym end-is j) (λ r. places (n - (i + 1)) r))))
    ∙ place-turn (n - (i + 1)) rest (items_view items) o (place_view f) f-is ∙ λ j. with_places (items_view items) o (least_listed (places (one j) rest))

pub bracket-end : (ms : Members) (o : Option Code) (behind : List ℕ) (m : ℕ) → list_of ms (Some behind) o ≡ with_places ms o (least_listed (after_place (line.bracket behind) (λ r. places m r)))
bracket-end ms o behind m = (λ i. list_of ms (Some behind) (sym (least_of_none o) i)) ∙ sym (places-end ms o (Some behind) None)

pub missing-is : (ms : Members) (o : Option Code) (m : ℕ) → list_of ms None (least_of o (Some Y8)) ≡ with_places ms o (least_listed (after_place line.missing (λ r. places m r)))
missing-is ms o m = sym (places-end ms o None (Some Y8))

pub fuel-end : (ms : Members) (o : Option Code) (rest : List ℕ) (n i : ℕ) → n ≤ i → list_of ms None o ≡ with_places ms o (least_listed (places (n - i) rest))
fuel-end ms o rest n i le =
    let none : n - i ≡ 0 = omega arith in
    (λ i. list_of ms None (sym (least_of_none o) i)) ∙ sym (places-end ms o None None) ∙ λ i. with_places ms o (least_listed (places (sym none i) rest))

pub ruleset texts_and_codes = (view-Text, least_append)

pub list-written : (r : line.Listed) → written_of_list (least_listed r) ≡ least_written (line.written_list r)
list-written r = λ i. record { given = Some (node sequence r.members); header = None; code = sym (least_append r.codes (line.rest_codes r.rest)) i }

-- the value at the front, by what it begins with
pub at-quoted : (w : List ℕ) (o : Option Quoted) → is_quote w ≡ true → o ≡ quoted w → line.written_quoted o ≡ written_at w
at-quoted w o here is = ap line.written_quoted is ∙ sym (cond-true (is_quote w) _ _ here)

pub at-list : (w : List ℕ) → is_quote w ≡ false → head_is 91 w ≡ true → line.written_list (line.listed w) ≡ written_at w
at-list w away here = sym (cond-false (is_quote w) _ _ away ∙ cond-true (head_is 91 w) _ _ here)

-- without a quote or a bracket in front, by the bytes that the code asked
pub at-bar : (w first second third : List ℕ) (t : Bool) → first ≡ w → false ≡ is_quote first → second ≡ w → false ≡ head_is 91 second → third ≡ w → t ≡ head_is 124 third
    → cond t (line.header_of (tail_of w)) (line.written_plain (before_comment 0 w)) ≡ written_at w
at-bar w first second third t first-is away second-is other third-is bar =
    (λ i. cond ((bar ∙ ap (head_is 124) third-is) i) (line.header_of (tail_of w)) (line.written_plain (before_comment 0 w)))
    ∙ sym (cond-false (is_quote w) _ _ (sym (away ∙ ap is_quote first-is)) ∙ cond-false (head_is 91 w) _ _ (sym (other ∙ ap (head_is 91) second-is)))

-- what stands behind a dash, by its three tests
pub item-by : (r : List ℕ) (p q s : Bool) → only_comment 45 r ≡ p → head_is 9 (drop (spaces r) r) ≡ q → (is_dash (drop (spaces r) r) || is_some (keyed (drop (spaces r) r))) ≡ s
    → item r ≡ cond p (line.value (unwritten [])) (cond q (line.value (unwritten (Y2 ∷ []))) (cond s (line.inner (1 + spaces r) (drop (spaces r) r)) (line.value (written 45 r))))
item-by r p q s nothing tab more = λ i.
    cond (nothing i) (line.value (unwritten [])) (cond (tab i) (line.value (unwritten (Y2 ∷ []))) (cond (more i) (line.inner (1 + spaces r) (drop (spaces r) r)) (line.value (written 45 r))))

-- the same where neither is the text empty nor a tab comes first, by the texts that the code asked
pub item-more : (r first second rest : List ℕ) (t : Bool) → first ≡ r → false ≡ only_comment 45 first → second ≡ rest → false ≡ head_is 9 second → rest ≡ drop (spaces r) r → t ≡ (is_dash rest || is_some (keyed rest))
    → item r ≡ cond t (line.inner (1 + spaces r) (drop (spaces r) r)) (line.value (written 45 r))
item-more r first second rest t first-is some second-is no_tab rest-is more =
    item-by r false false t (sym (some ∙ ap (only_comment 45) first-is)) (sym (no_tab ∙ ap (head_is 9) (second-is ∙ rest-is))) (sym (more ∙ λ i. is_dash (rest-is i) || is_some (keyed (rest-is i))))

-- a place that begins with a quote, and one that doesn't
pub place-quoted : (bs from : List ℕ) (o : Option Quoted) → from ≡ drop_blanks bs → is_quote from ≡ true → o ≡ quoted from → least_place (line.quoted_place o) ≡ least_place (place bs)
place-quoted bs from o from-is here is =
    ap least_place (ap line.quoted_place (is ∙ ap quoted from-is) ∙ sym (cond-true (is_quote (drop_blanks bs)) _ _ (ap is_quote (sym from-is) ∙ here)))

pub place-plain : (bs from : List ℕ) → from ≡ drop_blanks bs → is_quote from ≡ false → least_place (line.plain_place bs (line.cut_place 44 bs)) ≡ least_place (place bs)
place-plain bs from from-is away = ap least_place (sym (cond-false (is_quote (drop_blanks bs)) _ _ (ap is_quote (sym from-is) ∙ away)))

pub line-parsed : (bs : List ℕ) (m : Option Code) (s : LeastParsed) → is_skipped bs ≡ false → m ≡ least (when (has_control bs || has_byte_order_mark bs) Y9)
    → s ≡ least_parsed (parse_content (spaces bs) (trim_end (drop (spaces bs) bs))) → parsed s.entries s.header (least_of m s.code) ≡ least_parsed (parse_line bs)
line-parsed bs m s away m-is s-is =
    let marks : List Code = when (has_control bs || has_byte_order_mark bs) Y9 in
    with-code m s marks (parse_content (spaces bs) (trim_end (drop (spaces bs) bs))) m-is s-is
    ∙ ap (λ (x : line.ParsedLine). least_parsed (line.with_codes marks x)) (sym (cond-false (is_skipped bs) (record { entries = []; header = None; codes = [] }) (parse_content (spaces bs) (trim_end (drop (spaces bs) bs))) away))

pub entries-push : (es : List parts.Entry) (e : parts.Entry) → map entry_view (es ++ e ∷ []) ≡ map entry_view es ++ entry_view e ∷ []
entries-push [] e = refl
entries-push (f ∷ es) e = λ i. entry_view f ∷ entries-push es e i

dash-some : (w : List ℕ) → is_dash w ≡ true → 1 + length (tail_of w) ≤ length w
dash-some [] e = absurd cc
dash-some (b ∷ bs) e = omega arith

pub dash-longer : (w r : List ℕ) → is_dash w ≡ true → r ≡ tail_of w → 1 + length r ≤ length w
dash-longer w r e is = let l : length r ≡ length (tail_of w) = ap length is in omega (arith, dash-some w e)

pub added : (c k t r w : ℕ) → k + t ≤ 1 + r → 1 + r ≤ w → c + w ≤ MAX_FILE_BYTES → (c + k) + t ≤ MAX_FILE_BYTES
added c k t r w a b d = omega arith

pub start-turn : (es : List parts.Entry) (n c : ℕ) (w : List ℕ) → es ≡ [] → with_entries (map entry_view es) (least_parsed (parse_entries (n - 0) c w)) ≡ least_parsed (parse_entries n c w)
start-turn es n c w e =
    let same : n - 0 ≡ n = omega arith in
    λ i. with_entries (map entry_view (e i)) (least_parsed (parse_entries (same i) c w))
