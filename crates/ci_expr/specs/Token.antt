-- The tokens of a text.
use Rattle.std.specs.Prelude.{◌≡◌, ℕ, ◌+◌, ◌≤◌, true, false, List, [], ◌∷◌, ◌++◌, length, take, drop, ◌==◌, ◌||◌, codes, ⊤}
use Rattle.ci_expr.specs.declared.fault.ExprCode.{ExprCode}
use Rattle.ci_expr.specs.declared.fault.ExprCode.TheVariants.{X2, X3}
use Rattle.ci_expr.specs.declared.token.Kind.{Kind}
use Rattle.ci_expr.specs.declared.token.Kind.TheVariants.{Name, Text, Null, Equal, Unequal, Match, Mismatch, And, Or, Left, Right, Pattern}
use Rattle.ci_expr.specs.Character.{is_blank, starts_word, is_word}

-- a token, its slice, and where it stands in the text
pub record Token : Type 0 where
  pub kind : Kind
  pub slice : List ℕ
  pub start : ℕ
  pub end : ℕ

abbrev pub token_at : ℕ → Kind → List ℕ → Token
token_at at kind slice = record { kind = kind; slice = slice; start = at; end = at + length slice }

-- ---- which slices a kind has
abbrev pub AreWord : List ℕ → Type 0
AreWord [] = ⊤
AreWord (b ∷ bs) = (is_word b ≡ true) × AreWord bs

-- no word character comes next
abbrev pub EndsWord : List ℕ → Type 0
EndsWord [] = ⊤
EndsWord (b ∷ bs) = is_word b ≡ false

abbrev pub Lacks : ℕ → List ℕ → Type 0
Lacks q [] = ⊤
Lacks q (b ∷ bs) = ((b == q) ≡ false) × Lacks q bs

abbrev pub IsMark : ℕ → Type 0
IsMark q = ((q == 34) || (q == 39)) ≡ true

-- No `/` stands in it but behind a backslash that takes it along, and no backslash is left at its end.
pub data IsBody : List ℕ → Type 0 where
  empty : IsBody []
  plain : (b : ℕ) (bs : List ℕ) → (b == 47) ≡ false → (b == 92) ≡ false → IsBody bs → IsBody (b ∷ bs)
  pair : (b : ℕ) (bs : List ℕ) → IsBody bs → IsBody (92 ∷ b ∷ bs)

-- the flag of a pattern, or none
abbrev pub IsFlag : List ℕ → List ℕ → Type 0
IsFlag [] [] = ⊤
IsFlag [] (b ∷ rest) = (b == 105) ≡ false
IsFlag (f ∷ []) rest = (f ≡ 105) × EndsWord rest
IsFlag (f ∷ g ∷ fs) rest = ⊥

-- a slice is a token of this kind, with this text behind it
abbrev pub Spells : Kind → List ℕ → List ℕ → Type 0
Spells Name slice rest = (b : ℕ) × (bs : List ℕ) × (slice ≡ 36 ∷ b ∷ bs) × (starts_word b ≡ true) × AreWord bs × EndsWord rest
Spells Text slice rest = (q : ℕ) × (body : List ℕ) × (slice ≡ q ∷ (body ++ q ∷ [])) × IsMark q × Lacks q body
Spells Null slice rest = (slice ≡ codes "null") × EndsWord rest
Spells Equal slice rest = slice ≡ codes "=="
Spells Unequal slice rest = slice ≡ codes "!="
Spells Match slice rest = slice ≡ codes "=~"
Spells Mismatch slice rest = slice ≡ codes "!~"
Spells And slice rest = slice ≡ codes "&&"
Spells Or slice rest = slice ≡ codes "||"
Spells Left slice rest = slice ≡ codes "("
Spells Right slice rest = slice ≡ codes ")"
Spells Pattern slice rest = (body : List ℕ) × (flag : List ℕ) × (slice ≡ 47 ∷ (body ++ 47 ∷ flag)) × IsBody body × IsFlag flag rest

-- so many bytes at the front are a token of this kind
abbrev pub IsFront : List ℕ → Kind × ℕ → Type 0
IsFront bs x = (x.1 ≤ length bs) × Spells x.0 (take x.1 bs) (drop x.1 bs)

-- The slices, parted by blanks alone, make up the text from place `at` on.
pub data AreTokens : ℕ → List ℕ → List Token → Type 0 where
  nothing : (at : ℕ) → AreTokens at [] []
  blank : (at b : ℕ) (bs : List ℕ) (ts : List Token) → is_blank b ≡ true → AreTokens (at + 1) bs ts → AreTokens at (b ∷ bs) ts
  token : (at : ℕ) (kind : Kind) (slice rest bs : List ℕ) (ts : List Token) → bs ≡ slice ++ rest → Spells kind slice rest
      → AreTokens (at + length slice) rest ts → AreTokens at bs (token_at at kind slice ∷ ts)

-- ---- the first fault
-- a quoted text or a pattern begins and doesn't end
pub data StaysOpen : List ℕ → Type 0 where
  quote : (q : ℕ) (bs : List ℕ) → IsMark q → Lacks q bs → StaysOpen (q ∷ bs)
  pattern : (bs : List ℕ) → ((body rest : List ℕ) → bs ≡ body ++ 47 ∷ rest → IsBody body → ⊥) → StaysOpen (47 ∷ bs)

abbrev pub BeginsNone : List ℕ → Type 0
BeginsNone bs = (kind : Kind) (slice rest : List ℕ) → bs ≡ slice ++ rest → Spells kind slice rest → ⊥

-- what stops the tokens, where tokens and blanks come before it
pub data Stops : List ℕ → ExprCode → Type 0 where
  blank : (b : ℕ) (bs : List ℕ) (f : ExprCode) → is_blank b ≡ true → Stops bs f → Stops (b ∷ bs) f
  token : (kind : Kind) (slice rest bs : List ℕ) (f : ExprCode) → bs ≡ slice ++ rest → Spells kind slice rest → Stops rest f → Stops bs f
  unclosed : (bs : List ℕ) → StaysOpen bs → Stops bs X3
  wrong : (b : ℕ) (bs : List ℕ) → is_blank b ≡ false → BeginsNone (b ∷ bs) → (StaysOpen (b ∷ bs) → ⊥) → Stops (b ∷ bs) X2
