-- What stands on one line: plain and quoted scalars, and the codes that hold of them.
use Rattle.std.specs.Prelude.{ℕ, zero, suc, ℤ, pos, negsuc, ◌+◌, ◌-◌, ◌*◌, Bool, true, false, List, [], ◌∷◌, ◌++◌, take, drop, slice_index, Option, Some, None, nat_lt, nat_le, ◌==◌, ◌&&◌, ◌||◌, if◌then◌else◌, codes}
use Rattle.std.specs.List.{list_any, prefix_len}
use Rattle.ci_values.specs.declared.limits.TheConstants.{MAX_NUMBER}
use Rattle.ci_yaml_lines.specs.declared.code.Code.{Code}
use Rattle.ci_yaml_lines.specs.declared.code.Code.TheVariants.{Y9, Y11}
use Rattle.ci_yaml_lines.specs.Tree.{Value, null, boolean, number, text}
use Rattle.std.specs.Str.{bytes_eq}

-- a space or a tab
abbrev pub is_blank : ℕ → Bool
is_blank b = (b == 32) || (b == 9)

-- how many spaces and tabs a text begins with
abbrev pub blanks : List ℕ → ℕ
blanks bs = prefix_len is_blank bs

abbrev pub drop_blanks : List ℕ → List ℕ
drop_blanks bs = drop (blanks bs) bs

abbrev pub is_nil : List ℕ → Bool
is_nil [] = true
is_nil (b ∷ bs) = false

-- the length without the spaces and tabs at the end
abbrev pub trimmed_len : List ℕ → ℕ
trimmed_len [] = 0
trimmed_len (b ∷ bs) = if (trimmed_len bs == 0) && is_blank b then 0 else 1 + trimmed_len bs

abbrev pub trim_end : List ℕ → List ℕ
trim_end bs = take (trimmed_len bs) bs

-- a space or the end comes next
abbrev pub space_next : List ℕ → Bool
space_next [] = true
space_next (b ∷ bs) = b == 32

abbrev pub head_is : ℕ → List ℕ → Bool
head_is b [] = false
head_is b (c ∷ cs) = b == c

abbrev pub tail_of : List ℕ → List ℕ
tail_of [] = []
tail_of (b ∷ bs) = bs

-- how many bytes come before a comment, which is a `#` after a space; `last` is the byte before the text
abbrev pub comment_len : ℕ → List ℕ → ℕ
comment_len last [] = 0
comment_len last (b ∷ bs) = if (b == 35) && (last == 32) then 0 else 1 + comment_len b bs

-- the text before a comment
abbrev pub before_comment : ℕ → List ℕ → List ℕ
before_comment last bs = take (comment_len last bs) bs

-- only spaces and tabs come before the end or a comment
abbrev pub only_comment : ℕ → List ℕ → Bool
only_comment last [] = true
only_comment last (b ∷ bs) = if is_blank b then only_comment b bs else (b == 35) && (last == 32)

-- `-` or `:` stands directly before a tab
abbrev pub has_tab_after : List ℕ → Bool
has_tab_after [] = false
has_tab_after (b ∷ bs) = (((b == 45) || (b == 58)) && head_is 9 bs) || has_tab_after bs

-- one of , [ ] { } # & * ! | > ' " % @ and the backquote
abbrev pub is_indicator : ℕ → Bool
is_indicator b = list_any (λ c. b == c) (codes ",[]{}#&*!|>'\"%@`")

-- a plain scalar does not begin so
abbrev pub is_forbidden : List ℕ → Bool
is_forbidden [] = false
is_forbidden (b ∷ bs) = is_indicator b || (((b == 45) || ((b == 63) || (b == 58))) && space_next bs)

-- `: ` stands in it, or `:` at its end
abbrev pub has_colon : List ℕ → Bool
has_colon [] = false
has_colon (b ∷ bs) = ((b == 58) && space_next bs) || has_colon bs

abbrev pub is_digit : ℕ → Bool
is_digit b = nat_le 48 b && nat_le b 57

abbrev pub all_digits : List ℕ → Bool
all_digits [] = true
all_digits (b ∷ bs) = is_digit b && all_digits bs

abbrev pub digits_value : ℕ → List ℕ → ℕ
digits_value n [] = n
digits_value n (b ∷ bs) = digits_value (10 * n + (b - 48)) bs

-- digits without a leading zero, up to the limit
abbrev pub is_count : List ℕ → Bool
is_count [] = false
is_count (b ∷ bs) = nat_lt 48 b && (all_digits (b ∷ bs) && nat_le (digits_value 0 (b ∷ bs)) MAX_NUMBER)

abbrev pub count_of : List ℕ → Option ℕ
count_of bs = if is_count bs then Some (digits_value 0 bs) else None

abbrev pub negated : ℕ → ℤ
negated zero = pos 0
negated (suc n) = negsuc n

-- a count behind a minus
abbrev pub negative_of : List ℕ → Option ℕ
negative_of [] = None
negative_of (b ∷ bs) = if b == 45 then count_of bs else None

abbrev pub number_of : Option ℕ → Option ℕ → List ℕ → Value
number_of (Some n) m bs = number (pos n)
number_of None (Some n) bs = number (negated n)
number_of None None bs = text bs

abbrev pub number_or_text : List ℕ → Value
number_or_text bs = number_of (count_of bs) (negative_of bs) bs

-- the value of a plain scalar
abbrev pub plain_value : List ℕ → Value
plain_value bs =
    if bytes_eq bs (codes "true") then boolean true else
    (if bytes_eq bs (codes "false") then boolean false else
    (if bytes_eq bs (codes "null") || bytes_eq bs (codes "~") then null else
    (if bytes_eq bs (codes "0") then number (pos 0) else number_or_text bs)))

abbrev pub when : Bool → Code → List Code
when b c = if b then c ∷ [] else []

-- the codes that hold of a plain scalar that is a value: `front` begins with it, `raw` reaches up to its end, and `bs` is it
abbrev pub plain_codes : List ℕ → List ℕ → List ℕ → List Code
plain_codes front raw bs = when (is_forbidden front || has_tab_after raw) Y9 ++ when (has_colon bs) Y11

-- a quoted scalar: its text, whether a backslash stands wrongly in it, and what follows it
pub record Quoted : Type 0 where
  pub text : List ℕ
  pub wrong : Bool
  pub rest : List ℕ

abbrev pub with_byte : ℕ → Option Quoted → Option Quoted
with_byte b None = None
with_byte b (Some q) = Some (record { text = b ∷ q.text; wrong = q.wrong; rest = q.rest })

abbrev pub wrongly : Option Quoted → Option Quoted
wrongly None = None
wrongly (Some q) = Some (record { text = q.text; wrong = true; rest = q.rest })

abbrev pub closes : List ℕ → Option Quoted
closes bs = Some (record { text = []; wrong = false; rest = bs })

-- with this text before it
abbrev pub with_words : List ℕ → Option Quoted → Option Quoted
with_words ws None = None
with_words ws (Some q) = Some (record { text = ws ++ q.text; wrong = q.wrong; rest = q.rest })

-- how a quoted scalar goes on at a place, if there is one
abbrev pub from_place : (List ℕ → Option Quoted) → List ℕ → Option ℕ → Option Quoted
from_place f bs None = None
from_place f bs (Some i) = with_words (take i bs) (f (slice_index bs i ∷ drop (i + 1) bs))

-- after the opening quote; two quotes stand for one
abbrev pub single : List ℕ → Option Quoted
single [] = None
single (b ∷ []) = if b == 39 then closes [] else None
single (b ∷ c ∷ bs) =
    if b == 39 then (if 39 == c then with_byte 39 (single bs) else closes (c ∷ bs))
    else with_byte b (single (c ∷ bs))

-- a backslash stands rightly before these: \ " n t
abbrev pub is_escape : ℕ → Bool
is_escape b = (b == 92) || ((b == 34) || ((b == 110) || (b == 116)))

abbrev pub escaped : ℕ → ℕ
escaped b = if b == 110 then 10 else (if b == 116 then 9 else b)

-- what the byte behind a backslash stands for
abbrev pub escape_of : List ℕ → Option (List ℕ)
escape_of [] = None
escape_of (b ∷ bs) = if is_escape b then Some (escaped b ∷ []) else None

abbrev pub double : List ℕ → Option Quoted
double [] = None
double (b ∷ []) = if b == 34 then closes [] else None
double (b ∷ c ∷ bs) =
    if b == 34 then closes (c ∷ bs) else
    (if b == 92 then (if is_escape c then with_byte (escaped c) (double bs) else wrongly (double (c ∷ bs)))
    else with_byte b (double (c ∷ bs)))

abbrev pub is_quote : List ℕ → Bool
is_quote bs = head_is 39 bs || head_is 34 bs

-- the quoted scalar at the front
abbrev pub quoted : List ℕ → Option Quoted
quoted [] = None
quoted (b ∷ bs) = if b == 39 then single bs else (if b == 34 then double bs else None)
