-- Words that are lent from the source, and words of their own.
use Rattle.std.specs.Prelude.{◌≡◌, ◌≢◌, ℕ, Bool, true, false, List, ◌∷◌, ◌++◌, string_bytes}
use Rattle.ci_yaml_lines.specs.declared.tree.Words.{Words}
use Rattle.ci_yaml_lines.specs.declared.tree.Words.TheVariants.{Lent, Owned}
use Rattle.ci_yaml_lines.specs.declared.quoted.QuotedWords.{QuotedWords}

abbrev pub is_lent : Words → Bool
is_lent (Lent s) = true
is_lent (Owned s) = false

-- the words are lent, and are these
abbrev pub IsLent : List ℕ → Words → Type 0
IsLent raw (Lent s) = raw ≡ s.now
IsLent raw (Owned s) = ⊥

-- The words are lent exactly where what is written is the words.
abbrev pub LentAs : List ℕ → Words → Type 0
LentAs raw (Lent s) = raw ≡ s.now
LentAs raw (Owned s) = raw ≢ string_bytes s

-- of a scalar behind its opening quote: what is written up to its closing one is the words, and then they are lent, or it isn't
abbrev pub LentUpTo : ℕ → List ℕ → QuotedWords → Type 0
LentUpTo mark bs q = (between : List ℕ) → bs ≡ between ++ mark ∷ q.rest.now → LentAs between q.words

-- the same of a scalar with its opening quote
abbrev pub LentBetween : List ℕ → Words → List ℕ → Type 0
LentBetween bs words rest = (mark : ℕ) (between : List ℕ) → bs ≡ mark ∷ (between ++ mark ∷ rest) → LentAs between words
