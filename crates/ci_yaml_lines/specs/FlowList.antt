-- Lists on one line, as they are written.
use Rattle.std.specs.Prelude.{◌≡◌, ◌≢◌, ℕ, true, false, List, [], ◌∷◌, ◌++◌}
use Rattle.std.specs.List.{list_all}
use Rattle.ci_yaml_lines.specs.Tree.{Value, text, Members, no_members, member}
use Rattle.ci_yaml_lines.specs.Scalar.{is_blank, is_forbidden, plain_value}
use Rattle.ci_yaml_lines.specs.Comment.{HasNoComment}
use Rattle.ci_yaml_lines.specs.Quoting.{IsQuoted}

-- spaces and tabs alone
abbrev pub AreBlanks : List ℕ → Type 0
AreBlanks bs = list_all is_blank bs ≡ true

-- the byte doesn't stand in the text
abbrev pub Lacks : ℕ → List ℕ → Type 0
Lacks b bs = (xs ys : List ℕ) → bs ≢ xs ++ b ∷ ys

-- the first byte doesn't stand directly before the second
abbrev pub LacksPair : ℕ → ℕ → List ℕ → Type 0
LacksPair b c bs = (xs ys : List ℕ) → bs ≢ xs ++ b ∷ c ∷ ys

-- `-` and `:` don't stand directly before a tab
pub record HasNoMarkBeforeTab (bs : List ℕ) : Type 0 where
  pub no_dash : LacksPair 45 9 bs
  pub no_colon : LacksPair 58 9 bs

-- There is a text, and no blanks are at its ends.
pub record IsTrimmed (bs : List ℕ) : Type 0 where
  pub some : bs ≢ []
  pub first : (b : ℕ) (rest : List ℕ) → bs ≡ b ∷ rest → is_blank b ≡ false
  pub last : (front : List ℕ) (b : ℕ) → bs ≡ front ++ b ∷ [] → is_blank b ≡ false

-- A plain text with blanks around it fills a place, which a comma or a bracket ends.
pub record IsPlain (raw words : List ℕ) : Type 0 where
  pub before : List ℕ
  pub behind : List ℕ
  pub parts : raw ≡ before ++ (words ++ behind)
  pub blanks_before : AreBlanks before
  pub blanks_behind : AreBlanks behind
  pub trimmed : IsTrimmed words
  pub begins : is_forbidden (words ++ (behind ++ 93 ∷ [])) ≡ false
  pub no_comma : Lacks 44 raw
  pub no_bracket : Lacks 93 raw
  pub no_open_bracket : Lacks 91 words
  pub no_brace : Lacks 123 words
  pub no_closing_brace : Lacks 125 words
  pub no_key : LacksPair 58 32 words
  pub no_colon_end : (front : List ℕ) → words ≢ front ++ 58 ∷ []
  pub no_comment : HasNoComment 44 raw
  pub tabs : HasNoMarkBeforeTab raw

-- a quoted scalar, in which no backslash stands wrongly, with blanks around it fills a place
pub record IsQuotedPlace (raw words : List ℕ) : Type 0 where
  pub before : List ℕ
  pub inner : List ℕ
  pub behind : List ℕ
  pub parts : raw ≡ before ++ inner
  pub blanks_before : AreBlanks before
  pub blanks_behind : AreBlanks behind
  pub scalar : IsQuoted inner (record { text = words; wrong = false; rest = behind })

-- what fills a place of a list, and its value
pub data IsPlace (raw : List ℕ) (v : Value) : Type 0 where
  plain : (words : List ℕ) → IsPlain raw words → v ≡ plain_value words → IsPlace raw v
  in_quotes : (words : List ℕ) → IsQuotedPlace raw words → v ≡ text words → IsPlace raw v

-- places with commas between them, and their values
pub data ArePlaces : List ℕ → Members → Type 0 where
  last : (raw : List ℕ) (v : Value) → IsPlace raw v → ArePlaces raw (member [] v no_members)
  more : (all raw rest : List ℕ) (v : Value) (vs : Members) → all ≡ raw ++ 44 ∷ rest → IsPlace raw v → ArePlaces rest vs → ArePlaces all (member [] v vs)

-- A list stands in front, and the rest behind it.
pub data IsList (bs : List ℕ) (vs : Members) (rest : List ℕ) : Type 0 where
  empty : (blanks : List ℕ) → AreBlanks blanks → bs ≡ 91 ∷ (blanks ++ 93 ∷ rest) → vs ≡ no_members → IsList bs vs rest
  places : (inner : List ℕ) → ArePlaces inner vs → bs ≡ 91 ∷ (inner ++ 93 ∷ rest) → IsList bs vs rest
