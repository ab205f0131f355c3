-- What one line says: its entries, and the codes that hold of it by itself.
use Rattle.std.specs.Prelude.{ℕ, zero, suc, ◌+◌, Bool, false, List, [], ◌∷◌, ◌++◌, length, take, drop, Option, Some, None, is_some, nat_lt, not, ◌==◌, ◌&&◌, ◌||◌, if◌then◌else◌}
use Rattle.std.specs.List.{list_any, prefix_len}
use Rattle.ci_yaml_lines.specs.declared.code.Code.{Code}
use Rattle.ci_yaml_lines.specs.declared.code.Code.TheVariants.{Y2, Y6, Y7, Y8, Y9, Y11}
use Rattle.ci_yaml_lines.specs.Tree.{sequence, Value, null, text, node, Members, no_members, member}
use Rattle.ci_yaml_lines.specs.Entry.{Head, dash, key, bare, Entry}
use Rattle.ci_yaml_lines.specs.Scalar.{drop_blanks, is_nil, trim_end, space_next, head_is, tail_of, before_comment, only_comment, has_tab_after, is_forbidden, is_digit, plain_value, plain_codes, when, Quoted, quoted, is_quote}

-- ---- lists on one line

-- where a place ends: before a comma, before the closing bracket, or, which is a fault, nowhere
pub data End : Type 0 where
  comma : List ℕ → End
  bracket : List ℕ → End
  missing : End

-- the text of a place, and where it ends
pub record Cut : Type 0 where
  pub raw : List ℕ
  pub end : End

-- how many bytes come before a comma, a bracket or a comment
abbrev pub place_len : ℕ → List ℕ → ℕ
place_len last [] = 0
place_len last (b ∷ bs) = if ((b == 44) || (b == 93)) || ((b == 35) && (last == 32)) then 0 else 1 + place_len b bs

abbrev pub end_of : List ℕ → End
end_of [] = missing
end_of (b ∷ bs) = if b == 44 then comma bs else (if b == 93 then bracket bs else missing)

-- up to a comma, a bracket, a comment or the end
abbrev pub cut_place : ℕ → List ℕ → Cut
cut_place last bs = record { raw = take (place_len last bs) bs; end = end_of (drop (place_len last bs) bs) }

-- what a plain scalar of a list does not hold
abbrev pub has_inner : List ℕ → Bool
has_inner [] = false
has_inner (b ∷ bs) = (((b == 91) || ((b == 123) || (b == 125))) || ((b == 58) && head_is 32 bs)) || has_inner bs

-- a place: its value, the codes that hold of it, and where it ends
pub record Place : Type 0 where
  pub value : Value
  pub codes : List Code
  pub end : End

-- the codes of a plain place: `front` begins with it, `raw` reaches up to its end, and `bs` is it
abbrev pub place_codes : List ℕ → List ℕ → List ℕ → List Code
place_codes front raw bs = if is_nil bs then Y8 ∷ [] else plain_codes front raw bs ++ when (has_inner bs) Y9

abbrev pub plain_place : List ℕ → Cut → Place
plain_place bs c = record { value = plain_value (drop_blanks (trim_end c.raw)); codes = place_codes (drop_blanks bs) c.raw (drop_blanks (trim_end c.raw)); end = c.end }

-- a quoted scalar, and behind it nothing but blanks
abbrev pub behind_quoted : Quoted → Cut → Place
behind_quoted q c = record { value = text q.text; codes = when q.wrong Y7 ++ (when (has_tab_after c.raw) Y9 ++ when (not (is_nil (drop_blanks c.raw))) Y11); end = c.end }

abbrev pub quoted_place : Option Quoted → Place
quoted_place None = record { value = null; codes = Y6 ∷ []; end = missing }
quoted_place (Some q) = behind_quoted q (cut_place 39 q.rest)

abbrev pub place : List ℕ → Place
place bs = if is_quote (drop_blanks bs) then quoted_place (quoted (drop_blanks bs)) else plain_place bs (cut_place 44 bs)

-- the places, what follows the closing bracket, and the codes that hold in them
pub record Listed : Type 0 where
  pub members : Members
  pub rest : Option (List ℕ)
  pub codes : List Code

abbrev pub with_place : Value → List Code → Listed → Listed
with_place v cs more = record { members = member [] v more.members; rest = more.rest; codes = cs ++ more.codes }

abbrev pub after_place : End → (List ℕ → Listed) → Listed
after_place (comma rest) more = more rest
after_place (bracket rest) more = record { members = no_members; rest = Some rest; codes = [] }
after_place missing more = record { members = no_members; rest = None; codes = Y8 ∷ [] }

-- the places of a list from here on; n is more than their number
abbrev pub places : ℕ → List ℕ → Listed
places zero bs = record { members = no_members; rest = None; codes = [] }
places (suc n) bs = with_place (place bs).value (place bs).codes (after_place (place bs).end (λ r. places n r))

abbrev pub listed_inside : ℕ → List ℕ → Listed
listed_inside n bs =
    if head_is 93 (drop_blanks bs) then record { members = no_members; rest = Some (tail_of (drop_blanks bs)); codes = [] }
    else places n bs

-- a list, which has no more places than bytes
abbrev pub listed : List ℕ → Listed
listed w = listed_inside (length w) (tail_of w)

-- ---- what stands behind a dash or a colon

-- how the line feeds at the end of a literal block are kept: one, none or all
pub data Chomp : Type 0 where
  clip : Chomp
  strip : Chomp
  keep : Chomp

-- the value that is written, or how the literal block below is read, and the codes that hold
pub record Written : Type 0 where
  pub given : Option Value
  pub header : Option Chomp
  pub codes : List Code

-- what follows a value, whose last byte this is: a comment, and no `-` or `:` directly before a tab
abbrev pub behind_value : ℕ → List ℕ → List Code
behind_value last bs = when (has_tab_after (last ∷ before_comment last bs)) Y9 ++ when (not (only_comment last bs)) Y11

abbrev pub digit_next : List ℕ → Bool
digit_next [] = false
digit_next (b ∷ bs) = is_digit b

abbrev pub header_rest : Chomp → ℕ → List ℕ → Written
header_rest how last bs = record { given = Some (text []); header = Some how; codes = when (digit_next bs) Y9 ++ behind_value last bs }

-- after the bar
abbrev pub header_of : List ℕ → Written
header_of [] = header_rest clip 124 []
header_of (b ∷ bs) = if b == 45 then header_rest strip 45 bs else (if b == 43 then header_rest keep 43 bs else header_rest clip 124 (b ∷ bs))

abbrev pub written_quoted : Option Quoted → Written
written_quoted None = record { given = Some (text []); header = None; codes = Y6 ∷ [] }
written_quoted (Some q) = record { given = Some (text q.text); header = None; codes = when q.wrong Y7 ++ behind_value 39 q.rest }

abbrev pub rest_codes : Option (List ℕ) → List Code
rest_codes None = []
rest_codes (Some bs) = behind_value 93 bs

abbrev pub written_list : Listed → Written
written_list r = record { given = Some (node sequence r.members); header = None; codes = r.codes ++ rest_codes r.rest }

abbrev pub written_plain : List ℕ → Written
written_plain raw = record { given = Some (plain_value (trim_end raw)); header = None; codes = plain_codes raw raw (trim_end raw) }

-- the value that begins at the front
abbrev pub written_at : List ℕ → Written
written_at w =
    if is_quote w then written_quoted (quoted w) else
    (if head_is 91 w then written_list (listed w) else
    (if head_is 124 w then header_of (tail_of w) else written_plain (before_comment 0 w)))

abbrev pub unwritten : List Code → Written
unwritten cs = record { given = None; header = None; codes = cs }

-- the value in this text, after a byte `last`
abbrev pub written : ℕ → List ℕ → Written
written last bs = if only_comment last bs then unwritten [] else written_at (drop_blanks bs)

-- ---- heads

-- a key, its text, what follows its colon, and the codes that hold of it
pub record Keyed : Type 0 where
  pub name : List ℕ
  pub rest : List ℕ
  pub codes : List Code

-- a plain text up to the first `:` that a space or the end follows, outside a comment
pub record Split : Type 0 where
  pub raw : List ℕ
  pub rest : List ℕ

-- how many bytes come before that colon or a comment
abbrev pub key_len : ℕ → List ℕ → ℕ
key_len last [] = 0
key_len last (b ∷ bs) = if ((b == 35) && (last == 32)) || ((b == 58) && space_next bs) then 0 else 1 + key_len b bs

abbrev pub split_colon : List ℕ → Option Split
split_colon bs = if head_is 58 (drop (key_len 0 bs) bs) then Some (record { raw = take (key_len 0 bs) bs; rest = tail_of (drop (key_len 0 bs) bs) }) else None

abbrev pub plain_key : Option Split → Option Keyed
plain_key None = None
plain_key (Some s) = Some (record { name = trim_end s.raw; rest = s.rest; codes = when (has_tab_after s.raw) Y9 })

-- a colon that a space or the end follows
abbrev pub is_colon : List ℕ → Bool
is_colon w = head_is 58 w && space_next (tail_of w)

abbrev pub quoted_key : Option Quoted → Option Keyed
quoted_key None = None
quoted_key (Some q) = if not q.wrong && is_colon (drop_blanks q.rest) then Some (record { name = q.text; rest = tail_of (drop_blanks q.rest); codes = [] }) else None

-- the key that this text begins with, if it is a key line
abbrev pub keyed : List ℕ → Option Keyed
keyed w = if is_quote w then quoted_key (quoted w) else (if is_forbidden w then None else plain_key (split_colon w))

abbrev pub is_dash : List ℕ → Bool
is_dash w = head_is 45 w && space_next (tail_of w)

-- what a line says: its entries, how its last value's literal block is read, and the codes that hold of it
pub record ParsedLine : Type 0 where
  pub entries : List Entry
  pub header : Option Chomp
  pub codes : List Code

abbrev pub entry_of : ℕ → Head → Written → List Code → ParsedLine
entry_of c hd w cs = record { entries = (record { column = c; head = hd; given = w.given }) ∷ []; header = w.header; codes = cs ++ w.codes }

-- a header as the document
abbrev pub header_code : Option Chomp → List Code
header_code None = []
header_code (Some how) = Y9 ∷ []

abbrev pub keyed_or_bare : ℕ → List ℕ → Option Keyed → ParsedLine
keyed_or_bare c w None = entry_of c bare (written_at w) (header_code (written_at w).header)
keyed_or_bare c w (Some k) = entry_of c (key k.name) (written 58 k.rest) k.codes

abbrev pub is_space : ℕ → Bool
is_space b = b == 32

-- how many spaces a text begins with
abbrev pub spaces : List ℕ → ℕ
spaces bs = prefix_len is_space bs

-- what stands behind a dash: further entries, so many columns on, or a value
pub data Item : Type 0 where
  inner : ℕ → List ℕ → Item
  value : Written → Item

abbrev pub item : List ℕ → Item
item r =
    if only_comment 45 r then value (unwritten []) else
    (if head_is 9 (drop (spaces r) r) then value (unwritten (Y2 ∷ [])) else
    (if is_dash (drop (spaces r) r) || is_some (keyed (drop (spaces r) r)) then inner (1 + spaces r) (drop (spaces r) r) else value (written 45 r)))

abbrev pub with_dash : ℕ → ParsedLine → ParsedLine
with_dash c s = record { entries = (record { column = c; head = dash; given = None }) ∷ s.entries; header = s.header; codes = s.codes }

abbrev pub dashed : ℕ → Item → (ℕ → List ℕ → ParsedLine) → ParsedLine
dashed c (inner k t) more = with_dash c (more (c + k) t)
dashed c (value w) more = entry_of c dash w []

-- the text at column c, which begins with no blank; n is more than its length
abbrev pub parse_entries : ℕ → ℕ → List ℕ → ParsedLine
parse_entries zero c w = record { entries = []; header = None; codes = [] }
parse_entries (suc n) c w = if is_dash w then dashed c (item (tail_of w)) (λ d t. parse_entries n d t) else keyed_or_bare c w (keyed w)

-- ---- lines

-- its bytes
abbrev pub Line : Type 0
Line = List ℕ

-- a line of spaces and tabs, or a comment
abbrev pub is_skipped : List ℕ → Bool
is_skipped bs = is_nil (drop_blanks bs) || head_is 35 (drop_blanks bs)

-- U+0000 to U+001F but tab, or U+007F
abbrev pub is_control : ℕ → Bool
is_control b = (nat_lt b 32 && not (b == 9)) || (b == 127)

abbrev pub has_control : List ℕ → Bool
has_control bs = list_any is_control bs

-- U+FEFF, as its three bytes
abbrev pub has_byte_order_mark : List ℕ → Bool
has_byte_order_mark [] = false
has_byte_order_mark (b ∷ bs) = ((b == 239) && (head_is 187 bs && head_is 191 (tail_of bs))) || has_byte_order_mark bs

-- a document mark: `---` or `...`, alone or before a space
abbrev pub is_document_mark : List ℕ → Bool
is_document_mark [] = false
is_document_mark (a ∷ bs) = ((a == 45) || (a == 46)) && (head_is a bs && (head_is a (tail_of bs) && space_next (tail_of (tail_of bs))))

abbrev pub with_codes : List Code → ParsedLine → ParsedLine
with_codes cs s = record { entries = s.entries; header = s.header; codes = cs ++ s.codes }

-- a content line, after c spaces and without the blanks at its end
abbrev pub parse_content : ℕ → List ℕ → ParsedLine
parse_content c w =
    if head_is 9 w then record { entries = []; header = None; codes = Y2 ∷ [] }
    else with_codes (when ((c == 0) && is_document_mark w) Y9) (parse_entries (suc (length w)) c w)

-- a line outside literal blocks
abbrev pub parse_line : List ℕ → ParsedLine
parse_line bs =
    with_codes (when (has_control bs || has_byte_order_mark bs) Y9)
    (if is_skipped bs then record { entries = []; header = None; codes = [] } else parse_content (spaces bs) (trim_end (drop (spaces bs) bs)))
