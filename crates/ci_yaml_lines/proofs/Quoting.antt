-- Quoted scalars are read as they are written.
use Rattle.std.proofs.Common.{◌≡◌, ℕ, Bool, true, false, cond, List, [], ◌∷◌, ◌++◌, Option, Some, None, refl, sym, ◌∙◌, ap, subst, append_assoc, ◌==◌, ◌||◌, IfSome, inl, inr}
use Rattle.std.proofs.lemmas.Bool.{eqb-true, eqb-false, ne_eqb, or_cases, or_from, cond_both, both_ways, false_from_ne_true}
use Rattle.ci_yaml_lines.specs.Scalar.{Quoted}
use Rattle.ci_yaml_lines.specs.Prelude.{with_byte, wrongly, closes, with_words, single, is_escape, escaped, double, quoted, head_is, tail_of, doubled, Escape, backslash, quote}
use Rattle.ci_yaml_lines.specs.Prelude.{line_feed, tab, Between, itself, escape, misused, IsQuoted, in_single, in_double}
use Rattle.ci_yaml_lines.specs.Quoting.{nothing}
use Rattle.ci_yaml_lines.proofs.Quotes.{single-other, single-quote, double-other, double-quote}

-- what holds with one more byte
one-byte : (P Q : Quoted → Type 0) (b : ℕ) (o : Option Quoted) → ((q : Quoted) → P q → Q (record { text = b ∷ q.text; wrong = q.wrong; rest = q.rest })) → IfSome o P → IfSome (with_byte b o) Q
one-byte P Q b None step h = tt
one-byte P Q b (Some q) step h = step q h

-- ---- single quotes

pub record SingleIs (bs : List ℕ) (q : Quoted) : Type 0 where
  pub parts : bs ≡ doubled q.text ++ 39 ∷ q.rest
  pub rightly : q.wrong ≡ false
  pub ends : head_is 39 q.rest ≡ false

single-is : (bs : List ℕ) → IfSome (single bs) (SingleIs bs)
single-is [] = tt
single-is (b ∷ []) =
    cond_both (b == 39) _ _ (λ o. IfSome o (SingleIs (b ∷ []))) (λ is. record { parts = λ i. eqb-true b 39 is i ∷ []; rightly = refl; ends = refl }) (λ _. tt)
single-is (b ∷ c ∷ bs) =
    let P : Option Quoted → Type 0 = λ o. IfSome o (SingleIs (b ∷ c ∷ bs)) in
    cond_both (b == 39) _ _ P
    (λ is. cond_both (39 == c) _ _ P
    (λ next. one-byte (SingleIs bs) (SingleIs (b ∷ c ∷ bs)) 39 (single bs)
    (λ q h. record { parts = λ i. eqb-true b 39 is i ∷ sym (eqb-true 39 c next) i ∷ h.parts i; rightly = h.rightly; ends = h.ends }) (single-is bs))
    (λ next. record { parts = λ i. eqb-true b 39 is i ∷ c ∷ bs; rightly = refl; ends = next }))
    (λ is. one-byte (SingleIs (c ∷ bs)) (SingleIs (b ∷ c ∷ bs)) b (single (c ∷ bs)) (λ q h. record {
      parts = (λ i. b ∷ h.parts i) ∙ (λ i. cond (sym is i) (39 ∷ 39 ∷ doubled q.text) (b ∷ doubled q.text) ++ 39 ∷ q.rest);
      rightly = h.rightly;
      ends = h.ends;
    }) (single-is (c ∷ bs)))

single-of : (t rest : List ℕ) → head_is 39 rest ≡ false → single (doubled t ++ 39 ∷ rest) ≡ Some (record { text = t; wrong = false; rest = rest })
single-of [] rest ends = single-quote rest ∙ λ i. cond (ends i) (with_words (39 ∷ []) (single (tail_of rest))) (closes rest)
single-of (b ∷ t) rest ends =
    cond_both (b == 39) _ _ (λ (x : List ℕ). single (x ++ 39 ∷ rest) ≡ Some (record { text = b ∷ t; wrong = false; rest = rest }))
    (λ is. ap (with_byte 39) (single-of t rest ends) ∙ λ i. Some (record { text = sym (eqb-true b 39 is) i ∷ t; wrong = false; rest = rest }))
    (λ is. single-other b (doubled t ++ 39 ∷ rest) is ∙ ap (with_byte b) (single-of t rest ends))

-- ---- double quotes

escape-is : (b : ℕ) → is_escape b ≡ true → Escape b (escaped b)
escape-is b e = elim (or_cases (b == 92) ((b == 34) || ((b == 110) || (b == 116))) e) [
  | inl is ↦ backslash (eqb-true b 92 is) (ap escaped (eqb-true b 92 is))
  | inr f ↦ elim (or_cases (b == 34) ((b == 110) || (b == 116)) f) [
    | inl is ↦ quote (eqb-true b 34 is) (ap escaped (eqb-true b 34 is))
    | inr g ↦ elim (or_cases (b == 110) (b == 116) g) [
      | inl is ↦ line_feed (eqb-true b 110 is) (ap escaped (eqb-true b 110 is))
      | inr is ↦ tab (eqb-true b 116 is) (ap escaped (eqb-true b 116 is))
    ]
  ]
]

is-escape : (b m : ℕ) → Escape b m → (is_escape b ≡ true) × (escaped b ≡ m)
is-escape b m (backslash e f) = (ap is_escape e, ap escaped e ∙ sym f)
is-escape b m (quote e f) = (ap is_escape e, ap escaped e ∙ sym f)
is-escape b m (line_feed e f) = (ap is_escape e, ap escaped e ∙ sym f)
is-escape b m (tab e f) = (ap is_escape e, ap escaped e ∙ sym f)

pub record DoubleIs (bs : List ℕ) (q : Quoted) : Type 0 where
  pub between : List ℕ
  pub parts : bs ≡ between ++ 34 ∷ q.rest
  pub means : Between between q.text q.wrong

double-closes : (b : ℕ) (bs : List ℕ) → (b == 34) ≡ true → DoubleIs (b ∷ bs) (record { text = []; wrong = false; rest = bs })
double-closes b bs is = record { between = []; parts = λ i. eqb-true b 34 is i ∷ bs; means = nothing }

double-misused : (b c : ℕ) (bs : List ℕ) → b ≡ 92 → is_escape c ≡ false → (q : Quoted) (between : List ℕ) → c ∷ bs ≡ between ++ 34 ∷ q.rest → Between between q.text q.wrong
    → DoubleIs (b ∷ c ∷ bs) (record { text = q.text; wrong = true; rest = q.rest })
double-misused b c bs e is q [] parts means = let same : c ≡ 34 = cc in absurd (both_ways (is_escape c) is (ap is_escape same))
double-misused b c bs e is q (d ∷ between) parts means =
    let same : d ≡ c = cc in
    record {
      between = b ∷ d ∷ between;
      parts = λ i. b ∷ parts i;
      means = misused (b ∷ d ∷ between) d between q.text q.wrong (λ i. e i ∷ d ∷ between) (λ m f. both_ways (is_escape d) (ap is_escape same ∙ is) (is-escape d m f).0) means;
    }

double-wrongly : (b c : ℕ) (bs : List ℕ) → b ≡ 92 → is_escape c ≡ false → (o : Option Quoted) → IfSome o (DoubleIs (c ∷ bs)) → IfSome (wrongly o) (DoubleIs (b ∷ c ∷ bs))
double-wrongly b c bs e is None h = tt
double-wrongly b c bs e is (Some q) h = double-misused b c bs e is q h.between h.parts h.means

double-is : (bs : List ℕ) → IfSome (double bs) (DoubleIs bs)
double-is [] = tt
double-is (b ∷ []) = cond_both (b == 34) _ _ (λ o. IfSome o (DoubleIs (b ∷ []))) (λ is. double-closes b [] is) (λ _. tt)
double-is (b ∷ c ∷ bs) =
    let P : Option Quoted → Type 0 = λ o. IfSome o (DoubleIs (b ∷ c ∷ bs)) in
    cond_both (b == 34) _ _ P (λ is. double-closes b (c ∷ bs) is)
    (λ mark. cond_both (b == 92) _ _ P
    (λ slash. cond_both (is_escape c) _ _ P
    (λ is. one-byte (DoubleIs bs) (DoubleIs (b ∷ c ∷ bs)) (escaped c) (double bs) (λ q h. record {
      between = b ∷ c ∷ h.between;
      parts = λ i. b ∷ c ∷ h.parts i;
      means = escape (b ∷ c ∷ h.between) c (escaped c) h.between q.text q.wrong (λ i. eqb-true b 92 slash i ∷ c ∷ h.between) (escape-is c is) h.means;
    }) (double-is bs))
    (λ is. double-wrongly b c bs (eqb-true b 92 slash) is (double (c ∷ bs)) (double-is (c ∷ bs))))
    (λ slash. one-byte (DoubleIs (c ∷ bs)) (DoubleIs (b ∷ c ∷ bs)) b (double (c ∷ bs)) (λ q h. record {
      between = b ∷ h.between;
      parts = λ i. b ∷ h.parts i;
      means = itself b h.between q.text q.wrong (eqb-false b 34 mark) (eqb-false b 92 slash) h.means;
    }) (double-is (c ∷ bs))))

double-of : (raw text : List ℕ) (wrong : Bool) (rest : List ℕ) → Between raw text wrong → double (raw ++ 34 ∷ rest) ≡ Some (record { text = text; wrong = wrong; rest = rest })
double-of raw text wrong rest nothing = double-quote rest
double-of raw text wrong rest (itself b more words w mark slash h) =
    double-other b (more ++ 34 ∷ rest) (or_from (b == 34) (b == 92) (ne_eqb b 34 mark) (ne_eqb b 92 slash)) ∙ ap (with_byte b) (double-of more words w rest h)
double-of raw text wrong rest (escape all c m more words w is e h) =
    let at = is-escape c m e in
    ap (λ (x : List ℕ). double (x ++ 34 ∷ rest)) is
    ∙ (λ i. cond (at.0 i) (with_byte (escaped c) (double (more ++ 34 ∷ rest))) (wrongly (double (c ∷ more ++ 34 ∷ rest))))
    ∙ λ i. with_byte (at.1 i) (double-of more words w rest h i)
double-of raw text wrong rest (misused all b more words w is none h) =
    ap (λ (x : List ℕ). double (x ++ 34 ∷ rest)) is
    ∙ (λ i. cond (false_from_ne_true (is_escape b) (λ yes. none (escaped b) (escape-is b yes)) i) (with_byte (escaped b) (double (more ++ 34 ∷ rest))) (wrongly (double (b ∷ more ++ 34 ∷ rest))))
    ∙ ap wrongly (double-of (b ∷ more) words w rest h)

pub single-read : (bs : List ℕ) (q : Quoted) → single bs ≡ Some q → SingleIs bs q
single-read bs q e = subst (λ (o : Option Quoted). IfSome o (SingleIs bs)) e (single-is bs)

pub double-read : (bs : List ℕ) (q : Quoted) → double bs ≡ Some q → DoubleIs bs q
double-read bs q e = subst (λ (o : Option Quoted). IfSome o (DoubleIs bs)) e (double-is bs)

-- ---- both

-- what is read is written there
pub quoted-is : (bs : List ℕ) (q : Quoted) → quoted bs ≡ Some q → IsQuoted bs q
quoted-is [] q e = absurd cc
quoted-is (b ∷ bs) q e =
    cond_both (b == 39) _ _ (λ o. o ≡ Some q → IsQuoted (b ∷ bs) q)
    (λ is f. let h = single-read bs q f in in_single (λ i. eqb-true b 39 is i ∷ h.parts i) h.rightly h.ends)
    (λ _. cond_both (b == 34) _ _ (λ o. o ≡ Some q → IsQuoted (b ∷ bs) q) (λ is f. let h = double-read bs q f in in_double h.between (λ i. eqb-true b 34 is i ∷ h.parts i) h.means) (λ _ f. absurd cc)) e

-- what is written there is read
pub is-quoted : (bs : List ℕ) (q : Quoted) → IsQuoted bs q → quoted bs ≡ Some q
is-quoted bs q (in_single parts rightly ends) =
    ap quoted parts ∙ single-of q.text q.rest ends ∙ λ i. Some (record { text = q.text; wrong = sym rightly i; rest = q.rest })
is-quoted bs q (in_double between parts means) = ap quoted parts ∙ double-of between q.text q.wrong q.rest means

-- a scalar that is written before less than what follows it
pub record Shorter (bs : List ℕ) (q : Quoted) (rest behind : List ℕ) : Type 0 where
  pub inner : List ℕ
  pub parts : bs ≡ inner ++ behind
  pub scalar : IsQuoted inner (record { text = q.text; wrong = q.wrong; rest = rest })

pub shorter : (bs rest behind : List ℕ) (q : Quoted) → IsQuoted bs q → q.rest ≡ rest ++ behind → head_is 39 rest ≡ false → Shorter bs q rest behind
shorter bs rest behind q (in_single parts rightly ends) is head = record {
  inner = 39 ∷ (doubled q.text ++ 39 ∷ rest);
  parts = parts ∙ (λ i. 39 ∷ (doubled q.text ++ 39 ∷ is i)) ∙ λ i. 39 ∷ sym (append_assoc (doubled q.text) (39 ∷ rest) behind) i;
  scalar = in_single refl rightly head;
}
shorter bs rest behind q (in_double between parts means) is head = record {
  inner = 34 ∷ (between ++ 34 ∷ rest);
  parts = parts ∙ (λ i. 34 ∷ (between ++ 34 ∷ is i)) ∙ λ i. 34 ∷ sym (append_assoc between (34 ∷ rest) behind) i;
  scalar = in_double between refl means;
}
