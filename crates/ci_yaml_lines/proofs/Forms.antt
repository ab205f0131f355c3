-- What holds of each line, by the forms that a line and its values may have.
use Rattle.std.proofs.Common.{ℕ, zero, suc, ◌+◌, Bool, true, false, cond, List, [], ◌∷◌, ◌++◌, length, drop, Option, Some, None, is_some, ◌==◌, ◌&&◌, ◌||◌}
use Rattle.std.specs.Prelude.{⊤}
use Rattle.ci_yaml_lines.specs.Prelude.{Code, Y2, Y9, dash, key, bare, drop_blanks, trim_end, head_is, tail_of, before_comment, only_comment, when, quoted, is_quote, Chomp, clip}
use Rattle.ci_yaml_lines.specs.Prelude.{strip, keep, header_rest, header_of, written_quoted, written_list, listed, written_plain, written_at, unwritten, written, keyed}
use Rattle.ci_yaml_lines.specs.Prelude.{keyed_or_bare, is_dash, spaces, item, ParsedLine, entry_of, header_code, with_dash, dashed, parse_entries, with_codes, parse_content}
use Rattle.ci_yaml_lines.specs.Prelude.{is_document_mark, is_skipped, Line, parse_line}
use Rattle.ci_yaml_lines.specs.Entry.{Entry}
use Rattle.ci_yaml_lines.specs.Scalar.{Quoted}
use Rattle.ci_yaml_lines.specs.Line.{Written, Keyed, Item, inner, value}

pub either : {A : Type 0} (P : A → Type 0) (b : Bool) (x y : A) → P x → P y → P (cond b x y)
either P true x y p q = p
either P false x y p q = q

-- ---- what is written

-- it holds of a value of each form
pub record OfForms (P : Written → Type 0) : Type 0 where
  pub in_quotes : (q : Quoted) → P (written_quoted (Some q))
  pub unclosed : P (written_quoted None)
  pub in_list : (w : List ℕ) → P (written_list (listed w))
  pub in_block : (how : Chomp) (last : ℕ) (bs : List ℕ) → P (header_rest how last bs)
  pub plain : (raw : List ℕ) → P (written_plain raw)

quoted-each : (P : Written → Type 0) → OfForms P → (q : Option Quoted) → P (written_quoted q)
quoted-each P all None = all.unclosed
quoted-each P all (Some q) = all.in_quotes q

header-each : (P : Written → Type 0) → OfForms P → (bs : List ℕ) → P (header_of bs)
header-each P all [] = all.in_block clip 124 []
header-each P all (b ∷ bs) =
    either P (b == 45) (header_rest strip 45 bs) (cond (b == 43) (header_rest keep 43 bs) (header_rest clip 124 (b ∷ bs))) (all.in_block strip 45 bs)
    (either P (b == 43) (header_rest keep 43 bs) (header_rest clip 124 (b ∷ bs)) (all.in_block keep 43 bs) (all.in_block clip 124 (b ∷ bs)))

-- then of each value that begins at the front
pub written_at-each : (P : Written → Type 0) → OfForms P → (w : List ℕ) → P (written_at w)
written_at-each P all w =
    let plain : Written = written_plain (before_comment 0 w) in
    let header : Written = cond (head_is 124 w) (header_of (tail_of w)) plain in
    let list : Written = cond (head_is 91 w) (written_list (listed w)) header in
    either P (is_quote w) (written_quoted (quoted w)) list (quoted-each P all (quoted w))
    (either P (head_is 91 w) (written_list (listed w)) header (all.in_list w)
    (either P (head_is 124 w) (header_of (tail_of w)) plain (header-each P all (tail_of w)) (all.plain (before_comment 0 w))))

-- and, if it holds where nothing is written, of each value behind a byte
pub written-each : (P : Written → Type 0) → OfForms P → P (unwritten []) → (last : ℕ) (bs : List ℕ) → P (written last bs)
written-each P all none last bs = either P (only_comment last bs) (unwritten []) (written_at (drop_blanks bs)) none (written_at-each P all (drop_blanks bs))

-- ---- what lines parse to

-- it holds of a line of each form
pub record OfLines (S : ParsedLine → Type 0) : Type 0 where
  pub empty : (cs : List Code) → S (record { entries = []; header = None; codes = cs })
  pub bare_value : (c : ℕ) (w : List ℕ) → S (entry_of c bare (written_at w) (header_code (written_at w).header))
  pub key_value : (c : ℕ) (k : Keyed) → S (entry_of c (key k.name) (written 58 k.rest) k.codes)
  pub item_value : (c : ℕ) (bs : List ℕ) → S (entry_of c dash (written 45 bs) [])
  pub no_value : (c : ℕ) (cs : List Code) → S (entry_of c dash (unwritten cs) [])
  pub behind_dash : (c : ℕ) (s : ParsedLine) → S s → S (with_dash c s)
  pub more_codes : (cs : List Code) (s : ParsedLine) → S s → S (with_codes cs s)

keyed-each : (S : ParsedLine → Type 0) → OfLines S → (c : ℕ) (w : List ℕ) (k : Option Keyed) → S (keyed_or_bare c w k)
keyed-each S all c w None = all.bare_value c w
keyed-each S all c w (Some k) = all.key_value c k

-- what a dash begins, where each further text of entries is known
abbrev OfItem : (ParsedLine → Type 0) → Item → Type 0
OfItem S (inner n t) = (c : ℕ) (s : ParsedLine) → S s → S (with_dash c s)
OfItem S (value w) = (c : ℕ) → S (entry_of c dash w [])

item-each : (S : ParsedLine → Type 0) → OfLines S → (r : List ℕ) → OfItem S (item r)
item-each S all r =
    let more : List ℕ = drop (spaces r) r in
    let last : Item = cond (is_dash more || is_some (keyed more)) (inner (1 + spaces r) more) (value (written 45 r)) in
    let tab : Item = cond (head_is 9 more) (value (unwritten (Y2 ∷ []))) last in
    either (OfItem S) (only_comment 45 r) (value (unwritten [])) tab (λ c. all.no_value c [])
    (either (OfItem S) (head_is 9 more) (value (unwritten (Y2 ∷ []))) last (λ c. all.no_value c (Y2 ∷ []))
    (either (OfItem S) (is_dash more || is_some (keyed more)) (inner (1 + spaces r) more) (value (written 45 r)) (λ c s h. all.behind_dash c s h) (λ c. all.item_value c r)))

dashed-each : (S : ParsedLine → Type 0) (c : ℕ) (i : Item) (more : ℕ → List ℕ → ParsedLine) → OfItem S i → ((d : ℕ) (t : List ℕ) → S (more d t)) → S (dashed c i more)
dashed-each S c (inner k t) more h ih = h c (more (c + k) t) (ih (c + k) t)
dashed-each S c (value w) more h ih = h c

entries-each : (S : ParsedLine → Type 0) → OfLines S → (n c : ℕ) (w : List ℕ) → S (parse_entries n c w)
entries-each S all zero c w = all.empty []
entries-each S all (suc n) c w =
    either S (is_dash w) (dashed c (item (tail_of w)) (λ d t. parse_entries n d t)) (keyed_or_bare c w (keyed w))
    (dashed-each S c (item (tail_of w)) (λ d t. parse_entries n d t) (item-each S all (tail_of w)) (λ d t. entries-each S all n d t)) (keyed-each S all c w (keyed w))

content-each : (S : ParsedLine → Type 0) → OfLines S → (c : ℕ) (w : List ℕ) → S (parse_content c w)
content-each S all c w =
    let tab : ParsedLine = record { entries = []; header = None; codes = Y2 ∷ [] } in
    let body : ParsedLine = parse_entries (suc (length w)) c w in
    let marks : List Code = when ((c == 0) && is_document_mark w) Y9 in
    either S (head_is 9 w) tab (with_codes marks body) (all.empty (Y2 ∷ [])) (all.more_codes marks body (entries-each S all (suc (length w)) c w))

-- then of each line
pub line-each : (S : ParsedLine → Type 0) → OfLines S → (l : Line) → S (parse_line l)
line-each S all l =
    let skip : ParsedLine = record { entries = []; header = None; codes = [] } in
    let w : List ℕ = trim_end (drop (spaces l) l) in
    let rest : ParsedLine = cond (is_skipped l) skip (parse_content (spaces l) w) in
    all.more_codes _ rest (either S (is_skipped l) skip (parse_content (spaces l) w) (all.empty []) (content-each S all (spaces l) w))

-- ---- the entries of a line

abbrev pub EachEntry : (Entry → Type 0) → List Entry → Type 0
EachEntry P [] = ⊤
EachEntry P (e ∷ es) = P e × EachEntry P es

-- it holds of an entry of each form
pub record OfEntries (P : Entry → Type 0) : Type 0 where
  pub bare_value : (c : ℕ) (w : List ℕ) → P (record { column = c; head = bare; given = (written_at w).given })
  pub key_value : (c : ℕ) (k : Keyed) → P (record { column = c; head = key k.name; given = (written 58 k.rest).given })
  pub item_value : (c : ℕ) (bs : List ℕ) → P (record { column = c; head = dash; given = (written 45 bs).given })
  pub lone_dash : (c : ℕ) → P (record { column = c; head = dash; given = None })

of-entries : (P : Entry → Type 0) → OfEntries P → OfLines (λ s. EachEntry P s.entries)
of-entries P all = record {
  empty = λ cs. tt;
  bare_value = λ c w. (all.bare_value c w, tt);
  key_value = λ c k. (all.key_value c k, tt);
  item_value = λ c bs. (all.item_value c bs, tt);
  no_value = λ c cs. (all.lone_dash c, tt);
  behind_dash = λ c s p. (all.lone_dash c, p);
  more_codes = λ cs s p. p;
}

-- then of each entry of a line
pub entry-each : (P : Entry → Type 0) → OfEntries P → (l : Line) → EachEntry P (parse_line l).entries
entry-each P all l = line-each (λ s. EachEntry P s.entries) (of-entries P all) l

pub entries-join : (P : Entry → Type 0) (a b : List Entry) → EachEntry P a → EachEntry P b → EachEntry P (a ++ b)
entries-join P [] b p q = q
entries-join P (e ∷ a) b p q = (p.0, entries-join P a b p.1 q)

pub entries-front : (P : Entry → Type 0) (a b : List Entry) → EachEntry P (a ++ b) → EachEntry P a
entries-front P [] b h = tt
entries-front P (e ∷ a) b h = (h.0, entries-front P a b h.1)

pub entries-behind : (P : Entry → Type 0) (a b : List Entry) → EachEntry P (a ++ b) → EachEntry P b
entries-behind P [] b h = h
entries-behind P (e ∷ a) b h = entries-behind P a b h.1
