-- Quoted scalars that are written as they are read, and those that aren't.
use Rattle.std.proofs.Common.{◌≡◌, ℕ, suc, ◌+◌, ◌<◌, ◌≤◌, Bool, true, false, List, [], ◌∷◌, ◌++◌, length, Option, Some, None, string_bytes, refl, sym, ◌∙◌, ap, subst}
use Rattle.std.proofs.Common.{length-append, arith, ◌==◌, IfSome, option_map}
use Rattle.ci_yaml_lines.specs.Prelude.{QuotedWords, quoted_words_view, Words, Lent, Owned, with_words, single, double, head_is, words_of, doubled, Between, itself, escape}
use Rattle.ci_yaml_lines.specs.Prelude.{misused, is_lent, IsLent, LentAs, LentUpTo, LentBetween}
use Rattle.ci_yaml_lines.specs.Scalar.{Quoted}
use Rattle.ci_yaml_lines.specs.Quoting.{nothing}
use Rattle.std.proofs.lemmas.Bool.{cond_both, both_ways, eqb-false}
use Rattle.std.proofs.lemmas.List.{append_cancel_right}
use Rattle.ci_yaml_lines.proofs.Quoting.{SingleIs, single-read, DoubleIs, double-read}

-- ---- written as they are read

as-lent : (raw front : List ℕ) (w : Words) → raw ≡ front → IsLent front w → LentAs raw w
as-lent raw front (Lent s) e is = e ∙ is
as-lent raw front (Owned s) e is = absurd is

-- ---- written in another way

-- it is longer as it is written
owned-by : (between : List ℕ) (w : Words) → is_lent w ≡ false → length (words_of w) < length between → LentAs between w
owned-by between (Lent s) own lt = absurd cc
owned-by between (Owned s) own lt = λ same. (let size : length between ≡ length (string_bytes s) = ap length same in omega arith)

words-le : (t : List ℕ) → length t ≤ length (doubled t)
words-le [] = omega arith
words-le (b ∷ t) = cond_both (b == 39) _ _ (λ (x : List ℕ). suc (length t) ≤ length x) (λ _. omega (arith, words-le t)) (λ _. omega (arith, words-le t))

-- with a quote in it
doubled-lt : (t rest behind : List ℕ) → head_is 39 rest ≡ true → head_is 39 behind ≡ false → 39 ∷ rest ≡ doubled t ++ 39 ∷ behind → length t < length (doubled t)
doubled-lt [] rest behind head ends e = let same : rest ≡ behind = cc in absurd (both_ways (head_is 39 behind) ends (sym (ap (head_is 39) same) ∙ head))
doubled-lt (b ∷ t) rest behind head ends e =
    cond_both (b == 39) _ _ (λ (x : List ℕ). 39 ∷ rest ≡ x ++ 39 ∷ behind → suc (length t) < length x) (λ _ _. omega (arith, words-le t))
    (λ other f. let all : 39 ∷ rest ≡ b ∷ (doubled t ++ 39 ∷ behind) = f in let same : b ≡ 39 = cc in absurd (eqb-false b 39 other same)) e

between-le : (raw text : List ℕ) (wrong : Bool) → Between raw text wrong → length text ≤ length raw
between-le raw text wrong nothing = omega arith
between-le raw text wrong (itself b more words w mark slash h) = omega (arith, between-le more words w h)
between-le raw text wrong (escape all c m more words w is e h) = omega (arith, ap length is, between-le more words w h)
between-le raw text wrong (misused all b more words w is none h) = omega (arith, ap length is, between-le (b ∷ more) words w h)

first-same : (a b : ℕ) (xs ys : List ℕ) → a ∷ xs ≡ b ∷ ys → a ≡ b
first-same a b xs ys e = cc

-- with a backslash first
between-lt : (raw text : List ℕ) (wrong : Bool) (rest behind : List ℕ) → Between raw text wrong → 92 ∷ rest ≡ raw ++ 34 ∷ behind → length text < length raw
between-lt raw text wrong rest behind nothing e = absurd (omega (arith, first-same 92 34 rest behind e))
between-lt raw text wrong rest behind (itself b more words w mark slash h) e = absurd (slash cc)
between-lt raw text wrong rest behind (escape all c m more words w is e' h) e = omega (arith, ap length is, between-le more words w h)
between-lt raw text wrong rest behind (misused all b more words w is none h) e = omega (arith, ap length is, between-le (b ∷ more) words w h)

-- what follows a quote or backslash is shorter as it is read
abbrev IsLonger : List ℕ → Option Quoted → Type 0
IsLonger bs o = IfSome o (λ p. length p.text + suc (length p.rest) < length bs)

pair-longer : (rest : List ℕ) → head_is 39 rest ≡ true → (o : Option Quoted) → single (39 ∷ rest) ≡ o → IsLonger (39 ∷ rest) o
pair-longer rest head None is = tt
pair-longer rest head (Some p) is =
    let s : SingleIs (39 ∷ rest) p = single-read (39 ∷ rest) p is in
    omega (arith, ap length s.parts ∙ length-append (doubled p.text) (39 ∷ p.rest), doubled-lt p.text rest p.rest head s.ends s.parts)

slash-longer : (rest : List ℕ) (o : Option Quoted) → double (92 ∷ rest) ≡ o → IsLonger (92 ∷ rest) o
slash-longer rest None is = tt
slash-longer rest (Some p) is =
    let s : DoubleIs (92 ∷ rest) p = double-read (92 ∷ rest) p is in
    omega (arith, ap length s.parts ∙ length-append s.between (34 ∷ p.rest), between-lt s.between p.text p.wrong rest p.rest s.means s.parts)

owned-at : (mark : ℕ) (text front more between behind : List ℕ) (w : Words) (wrong : Bool) (o : Option Quoted) → IsLonger more o → text ≡ front ++ more
    → Some (record { text = words_of w; wrong = wrong; rest = behind }) ≡ with_words front o → is_lent w ≡ false → text ≡ between ++ mark ∷ behind → LentAs between w
owned-at mark text front more between behind w wrong None longer parts read own e = absurd cc
owned-at mark text front more between behind w wrong (Some p) longer parts read own e =
    let q : Quoted = record { text = words_of w; wrong = wrong; rest = behind } in
    let same : q ≡ record { text = front ++ p.text; wrong = p.wrong; rest = p.rest } = cc in
    let words : length (words_of w) ≡ length front + length p.text = ap (λ (x : Quoted). length x.text) same ∙ length-append front p.text in
    let rest : length behind ≡ length p.rest = ap (λ (x : Quoted). length x.rest) same in
    let whole : length text ≡ length between + suc (length behind) = ap length e ∙ length-append between (mark ∷ behind) in
    owned-by between w own (omega (arith, ap length parts ∙ length-append front more))

-- ---- what is returned

pub lent-some : (mark : ℕ) (text front rest : List ℕ) (o : Option QuotedWords) → text ≡ front ++ mark ∷ rest → option_map quoted_words_view o ≡ Some (record { text = front; wrong = false; rest = rest })
    → IfSome o (λ q. IsLent front q.words) → IfSome o (λ q. LentUpTo mark text q)
lent-some mark text front rest None parts is lent = tt
lent-some mark text front rest (Some q) parts is lent =
    let view : quoted_words_view q ≡ record { text = front; wrong = false; rest = rest } = cc in
    λ between e. as-lent between front q.words (append_cancel_right between front (mark ∷ rest) ((λ i. between ++ mark ∷ (sym view i).rest) ∙ sym e ∙ parts)) lent

owned-ok : (mark : ℕ) (text front more : List ℕ) (o : Option Quoted) (r : Option QuotedWords) → IsLonger more o → text ≡ front ++ more → option_map quoted_words_view r ≡ with_words front o
    → IfSome r (λ q. is_lent q.words ≡ false) → IfSome r (λ q. LentUpTo mark text q)
owned-ok mark text front more o None longer parts is own = tt
owned-ok mark text front more o (Some q) longer parts is own = λ between e. owned-at mark text front more between q.rest.now q.words q.wrong o longer parts is own e

pub doubled-ok : (text front rest : List ℕ) (r : Option QuotedWords) → text ≡ front ++ 39 ∷ rest → head_is 39 rest ≡ true
    → option_map quoted_words_view r ≡ with_words front (single (39 ∷ rest)) → IfSome r (λ q. is_lent q.words ≡ false) → IfSome r (λ q. LentUpTo 39 text q)
doubled-ok text front rest r parts head is own = owned-ok 39 text front (39 ∷ rest) (single (39 ∷ rest)) r (pair-longer rest head (single (39 ∷ rest)) refl) parts is own

pub escaped-ok : (text front rest : List ℕ) (r : Option QuotedWords) → text ≡ front ++ 92 ∷ rest
    → option_map quoted_words_view r ≡ with_words front (double (92 ∷ rest)) → IfSome r (λ q. is_lent q.words ≡ false) → IfSome r (λ q. LentUpTo 34 text q)
escaped-ok text front rest r parts is own = owned-ok 34 text front (92 ∷ rest) (double (92 ∷ rest)) r (slash-longer rest (double (92 ∷ rest)) refl) parts is own

pub lent-of : (bs : List ℕ) (o : Option QuotedWords) (q : QuotedWords) → o ≡ Some q → IfSome o (λ x. LentBetween bs x.words x.rest.now) → LentBetween bs q.words q.rest.now
lent-of bs o q is h = subst (λ (x : Option QuotedWords). IfSome x (λ y. LentBetween bs y.words y.rest.now)) is h
