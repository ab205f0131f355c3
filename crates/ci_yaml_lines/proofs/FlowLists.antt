-- Lists on one line are read without a code exactly as they are written.
use Rattle.std.proofs.Common.{◌≡◌, ◌≢◌, ℕ, zero, suc, ◌+◌, ◌<◌, Bool, true, false, cond, List, [], ◌∷◌, ◌++◌, length, take, drop, Option, Some, None, refl, sym, ◌∙◌, ap, inl, inr}
use Rattle.std.proofs.Common.{subst, append_assoc, length-append, arith, ◌==◌, ◌&&◌, ◌||◌, not}
use Rattle.std.specs.List.{list_all}
use Rattle.std.proofs.lemmas.Bool.{eqb-true, eqb-false, ne_eqb, eq-eqb, and_parts, or_parts, or_from, or_right, or_cases, both_ways, not-false, cond_both, cases_Bool}
use Rattle.std.proofs.lemmas.Bool.{false_from_ne_true}
use Rattle.std.proofs.lemmas.List.{append-nil, take-append-drop, length-take-le}
use Rattle.ci_yaml_lines.specs.Prelude.{Code, Y7, Y8, Y9, Y11, Value, text, Members, no_members, is_blank, blanks, drop_blanks, is_nil, trimmed_len, trim_end, space_next, head_is}
use Rattle.ci_yaml_lines.specs.Prelude.{tail_of, has_tab_after, is_indicator, is_forbidden, has_colon, plain_value, plain_codes, when, is_quote, quoted, comma, bracket, missing}
use Rattle.ci_yaml_lines.specs.Prelude.{place_len, end_of, cut_place, has_inner, Place, place_codes, plain_place, behind_quoted, quoted_place, place, with_place, after_place}
use Rattle.ci_yaml_lines.specs.Prelude.{places, listed, HasNoComment, doubled, IsQuoted, in_single, in_double, AreBlanks, Lacks, LacksPair, HasNoMarkBeforeTab, IsTrimmed, IsPlain}
use Rattle.ci_yaml_lines.specs.Prelude.{IsQuotedPlace, IsPlace, ArePlaces, last, IsList, empty}
use Rattle.ci_yaml_lines.specs.Scalar.{Quoted}
use Rattle.ci_yaml_lines.specs.Line.{End, Listed}
use Rattle.ci_yaml_lines.specs.FlowList.{plain, in_quotes, more}
use Rattle.ci_yaml_lines.specs.FlowList as flow
use Rattle.std.proofs.Math.Seq.{drop-append_seam, take-append_seam}
use Rattle.ci_yaml_lines.proofs.Comment.{comment-none, comment-more}
use Rattle.ci_yaml_lines.proofs.Cuts.{full, trimmed-le}
use Rattle.ci_yaml_lines.proofs.Lists.{one-more}
use Rattle.ci_yaml_lines.proofs.Quoting.{quoted-is, is-quoted, shorter, Shorter}
use Rattle.ci_yaml_lines.proofs.Scans.{Searches, tab_here, colon_here, inner_here}

-- ---- codes that don't hold

-- one, and those behind it
pub when-no : (b : Bool) (c : Code) (cs : List Code) → when b c ++ cs ≡ [] → (b ≡ false) × (cs ≡ [])
when-no true c cs e = absurd cc
when-no false c cs e = (refl, e)

pub when-none : (b : Bool) (c : Code) → when b c ≡ [] → b ≡ false
when-none true c e = absurd cc
when-none false c e = refl

pub codes-no : (xs ys : List Code) → xs ++ ys ≡ [] → (xs ≡ []) × (ys ≡ [])
codes-no [] ys e = (refl, e)
codes-no (x ∷ xs) ys e = absurd cc

-- ---- what a search didn't find

pub head-tail : (c : ℕ) (w : List ℕ) → head_is c w ≡ true → w ≡ c ∷ tail_of w
head-tail c [] e = absurd cc
head-tail c (b ∷ w) e = λ i. sym (eqb-true c b e) i ∷ w

-- S finds what begins with a byte and stands before others
found : (S : List ℕ → Bool) (P : ℕ → List ℕ → Bool) → Searches S P → (xs bs : List ℕ) → S bs ≡ true → S (xs ++ bs) ≡ true
found S P by [] bs e = e
found S P by (x ∷ xs) bs e = by x (xs ++ bs) ∙ or_right (P x (xs ++ bs)) (S (xs ++ bs)) (found S P by xs bs e)

-- it finds nothing, where it would find these
refuted : (S : List ℕ → Bool) (P : ℕ → List ℕ → Bool) → Searches S P → (bs xs cs : List ℕ) → S bs ≡ false → S cs ≡ true → bs ≡ xs ++ cs → ⊥
refuted S P by bs xs cs clean hit e = both_ways (S bs) clean (ap S e ∙ found S P by xs cs hit)

-- it finds nothing, since nothing stands anywhere
nowhere : (S : List ℕ → Bool) (P : ℕ → List ℕ → Bool) → Searches S P → S [] ≡ false → (bs : List ℕ) → ((xs : List ℕ) (b : ℕ) (ys : List ℕ) → bs ≡ xs ++ b ∷ ys → P b ys ≡ true → ⊥) → S bs ≡ false
nowhere S P by nil [] none = nil
nowhere S P by nil (b ∷ bs) none =
    by b bs ∙ or_from (P b bs) (S bs) (false_from_ne_true (P b bs) (none [] b bs refl)) (nowhere S P by nil bs (λ xs c ys e. none (b ∷ xs) c ys (λ i. b ∷ e i)))

pub no-tabs : (bs : List ℕ) → has_tab_after bs ≡ false → HasNoMarkBeforeTab bs
no-tabs bs clean = record {
  no_dash = λ xs ys e. refuted has_tab_after tab_here (λ _ _. refl) bs xs (45 ∷ 9 ∷ ys) clean refl e;
  no_colon = λ xs ys e. refuted has_tab_after tab_here (λ _ _. refl) bs xs (58 ∷ 9 ∷ ys) clean refl e;
}

-- ---- blanks

pub blank-on : (b : ℕ) (bs : List ℕ) → is_blank b ≡ true → drop_blanks (b ∷ bs) ≡ drop_blanks bs
blank-on b bs is = (λ i. drop (cond (is i) (1 + blanks bs) 0) (b ∷ bs)) ∙ λ i. drop (one-more (blanks bs) i) (b ∷ bs)

pub blank-off : (b : ℕ) (bs : List ℕ) → is_blank b ≡ false → drop_blanks (b ∷ bs) ≡ b ∷ bs
blank-off b bs is = λ i. drop (cond (is i) (1 + blanks bs) 0) (b ∷ bs)

pub blanks-are : (bs : List ℕ) → list_all is_blank (take (blanks bs) bs) ≡ true
blanks-are [] = refl
blanks-are (b ∷ bs) =
    cond_both (is_blank b) _ _ (λ (n : ℕ). list_all is_blank (take n (b ∷ bs)) ≡ true)
    (λ is. (λ i. list_all is_blank (take (one-more (blanks bs) i) (b ∷ bs))) ∙ (λ i. is i && list_all is_blank (take (blanks bs) bs)) ∙ blanks-are bs) (λ _. refl)

behind-first : (bs : List ℕ) (c : ℕ) (cs : List ℕ) → drop_blanks bs ≡ c ∷ cs → is_blank c ≡ false
behind-first [] c cs e = let bad : [] ≡ c ∷ cs = e in absurd cc
behind-first (b ∷ bs) c cs e = elim (cases_Bool (is_blank b)) [
  | inl is ↦ behind-first bs c cs (sym (blank-on b bs is) ∙ e)
  | inr is ↦ let all : b ∷ bs ≡ c ∷ cs = sym (blank-off b bs is) ∙ e in let same : b ≡ c = cc in sym (ap is_blank same) ∙ is
]

pub blanks-parted : (bs : List ℕ) → bs ≡ take (blanks bs) bs ++ drop_blanks bs
blanks-parted bs = sym (take-append-drop (blanks bs) bs)

-- blanks before a byte that isn't one are dropped
pub blanks-dropped : (xs : List ℕ) (b : ℕ) (bs : List ℕ) → AreBlanks xs → is_blank b ≡ false → drop_blanks (xs ++ b ∷ bs) ≡ b ∷ bs
blanks-dropped [] b bs are is = blank-off b bs is
blanks-dropped (x ∷ xs) b bs are is =
    let at = and_parts (is_blank x) (list_all is_blank xs) are in
    blank-on x (xs ++ b ∷ bs) at.0 ∙ blanks-dropped xs b bs at.1 is

trimmed-blanks : (bs : List ℕ) → list_all is_blank (drop (trimmed_len bs) bs) ≡ true
trimmed-blanks [] = refl
trimmed-blanks (b ∷ bs) =
    cond_both ((trimmed_len bs == 0) && is_blank b) _ _ (λ (n : ℕ). list_all is_blank (drop n (b ∷ bs)) ≡ true)
    (λ is. let at = and_parts (trimmed_len bs == 0) (is_blank b) is in (λ i. at.1 i && list_all is_blank (drop (sym (eqb-true (trimmed_len bs) 0 at.0) i) bs)) ∙ trimmed-blanks bs)
    (λ _. (λ i. list_all is_blank (drop (one-more (trimmed_len bs) i) (b ∷ bs))) ∙ trimmed-blanks bs)

trimmed-last : (bs front : List ℕ) (c : ℕ) → trim_end bs ≡ front ++ c ∷ [] → is_blank c ≡ false
trimmed-last [] [] c e = let bad : [] ≡ c ∷ [] = e in absurd cc
trimmed-last [] (x ∷ front) c e = let bad : [] ≡ x ∷ (front ++ c ∷ []) = e in absurd cc
trimmed-last (b ∷ bs) [] c e =
    cond_both ((trimmed_len bs == 0) && is_blank b) _ _ (λ (n : ℕ). take n (b ∷ bs) ≡ c ∷ [] → is_blank c ≡ false) (λ _ f. let bad : [] ≡ c ∷ [] = f in absurd cc)
    (λ is g.
    let n : ℕ = trimmed_len bs in
    let f : b ∷ take n bs ≡ c ∷ [] = sym (λ i. take (one-more n i) (b ∷ bs)) ∙ g in
    let same : b ≡ c = cc in
    let none : take n bs ≡ [] = cc in
    let zero : n ≡ 0 = sym (length-take-le n bs (trimmed-le bs)) ∙ ap length none in
    sym (ap is_blank same) ∙ (λ i. sym (eq-eqb n 0 zero) i && is_blank b) ∙ is) e
trimmed-last (b ∷ bs) (x ∷ front) c e =
    cond_both ((trimmed_len bs == 0) && is_blank b) _ _ (λ (n : ℕ). take n (b ∷ bs) ≡ x ∷ (front ++ c ∷ []) → is_blank c ≡ false) (λ _ f. let bad : [] ≡ x ∷ (front ++ c ∷ []) = f in absurd cc)
    (λ _ g.
    let f : b ∷ take (trimmed_len bs) bs ≡ x ∷ (front ++ c ∷ []) = sym (λ i. take (one-more (trimmed_len bs) i) (b ∷ bs)) ∙ g in
    let rest : take (trimmed_len bs) bs ≡ front ++ c ∷ [] = cc in
    trimmed-last bs front c rest) e

-- ---- where a place is cut

-- up to a comma, a bracket or a comment
record CutIs (before : ℕ) (bs : List ℕ) (n : ℕ) : Type 0 where
  no_comma : Lacks 44 (take n bs)
  no_bracket : Lacks 93 (take n bs)
  no_comment : HasNoComment before (take n bs)

lacks-none : (b : ℕ) → Lacks b []
lacks-none b [] ys e = absurd cc
lacks-none b (x ∷ xs) ys e = absurd cc

lacks-more : (b c : ℕ) (bs : List ℕ) → (c == b) ≡ false → Lacks b bs → Lacks b (c ∷ bs)
lacks-more b c bs other lacks [] ys e = let same : c ≡ b = cc in eqb-false c b other same
lacks-more b c bs other lacks (x ∷ xs) ys e = let rest : bs ≡ xs ++ b ∷ ys = cc in lacks xs ys rest

cut-none : (before : ℕ) (bs : List ℕ) → CutIs before bs 0
cut-none before bs = record { no_comma = lacks-none 44; no_bracket = lacks-none 93; no_comment = comment-none before }

cut-is : (before : ℕ) (bs : List ℕ) → CutIs before bs (place_len before bs)
cut-is before [] = cut-none before []
cut-is before (b ∷ bs) =
    cond_both (((b == 44) || (b == 93)) || ((b == 35) && (before == 32))) _ _ (CutIs before (b ∷ bs)) (λ _. cut-none before (b ∷ bs))
    (λ is.
    let at = or_parts ((b == 44) || (b == 93)) ((b == 35) && (before == 32)) is in
    let mark = or_parts (b == 44) (b == 93) at.0 in
    let raw : List ℕ = take (place_len b bs) bs in
    let h = cut-is b bs in
    subst (CutIs before (b ∷ bs)) (sym (one-more (place_len b bs))) (record {
      no_comma = lacks-more 44 b raw mark.0 h.no_comma;
      no_bracket = lacks-more 93 b raw mark.1 h.no_bracket;
      no_comment = comment-more before b raw at.1 h.no_comment;
    }))

-- how a place ends, and what follows: a comma or a bracket
abbrev pub Ends : End → List ℕ → Type 0
Ends (comma rest) bs = bs ≡ 44 ∷ rest
Ends (bracket rest) bs = bs ≡ 93 ∷ rest
Ends missing bs = ⊥

ends-is : (bs : List ℕ) → end_of bs ≢ missing → Ends (end_of bs) bs
ends-is [] some = absurd (some refl)
ends-is (b ∷ bs) some =
    cond_both (b == 44) _ _ (λ e. e ≢ missing → Ends e (b ∷ bs)) (λ is _. ap (λ (n : ℕ). n ∷ bs) (eqb-true b 44 is))
    (λ _. cond_both (b == 93) _ _ (λ e. e ≢ missing → Ends e (b ∷ bs)) (λ is _. ap (λ (n : ℕ). n ∷ bs) (eqb-true b 93 is)) (λ _ no. absurd (no refl))) some

-- ---- a plain text

-- a byte that isn't a space follows, as a bracket would
abbrev NoSpaceNext : List ℕ → Type 0
NoSpaceNext bs = space_next bs ≡ false

space-behind : (xs ys zs : List ℕ) → NoSpaceNext ys → NoSpaceNext zs → space_next (xs ++ ys) ≡ space_next (xs ++ zs)
space-behind [] ys zs e f = e ∙ sym f
space-behind (x ∷ xs) ys zs e f = refl

forbidden-behind : (b : ℕ) (xs ys zs : List ℕ) → NoSpaceNext ys → NoSpaceNext zs → is_forbidden (b ∷ xs ++ ys) ≡ is_forbidden (b ∷ xs ++ zs)
forbidden-behind b xs ys zs e f = λ i. is_indicator b || (((b == 45) || ((b == 63) || (b == 58))) && space-behind xs ys zs e f i)

ends-space : (e : End) (bs : List ℕ) → Ends e bs → NoSpaceNext bs
ends-space (comma rest) bs is = ap space_next is
ends-space (bracket rest) bs is = ap space_next is
ends-space missing bs is = absurd is

-- a plain place has no codes
plain-is : (bs words : List ℕ) → words ≡ drop_blanks (trim_end (take (place_len 44 bs) bs)) → Ends (end_of (drop (place_len 44 bs) bs)) (drop (place_len 44 bs) bs)
    → place_codes (drop_blanks bs) (take (place_len 44 bs) bs) words ≡ [] → IsPlain (take (place_len 44 bs) bs) words
plain-is bs [] words-is ends codes = let bad : Y8 ∷ [] ≡ [] = codes in absurd cc
plain-is bs (w ∷ ws) words-is ends codes =
    let raw : List ℕ = take (place_len 44 bs) bs in
    let rest : List ℕ = drop (place_len 44 bs) bs in
    let cut : CutIs 44 bs (place_len 44 bs) = cut-is 44 bs in
    let before : List ℕ = take (blanks (trim_end raw)) (trim_end raw) in
    let behind : List ℕ = drop (trimmed_len raw) raw in
    let words : List ℕ = w ∷ ws in
    let at = codes-no (plain_codes (drop_blanks bs) raw words) (when (has_inner words) Y9) codes in
    let form = when-no (is_forbidden (drop_blanks bs) || has_tab_after raw) Y9 (when (has_colon words) Y11) at.0 in
    let begin = or_parts (is_forbidden (drop_blanks bs)) (has_tab_after raw) form.0 in
    let colon : has_colon words ≡ false = when-none (has_colon words) Y11 form.1 in
    let inner : has_inner words ≡ false = when-none (has_inner words) Y9 at.1 in
    let trim-parts : trim_end raw ≡ before ++ words = blanks-parted (trim_end raw) ∙ λ i. before ++ sym words-is i in
    let raw-parts : raw ≡ before ++ (words ++ behind) = sym (take-append-drop (trimmed_len raw) raw) ∙ (λ i. trim-parts i ++ behind) ∙ append_assoc before words behind in
    let first-is : is_blank w ≡ false = behind-first (trim_end raw) w ws (sym words-is) in
    let bs-parts : bs ≡ before ++ (w ∷ (ws ++ behind) ++ rest) =
    sym (take-append-drop (place_len 44 bs) bs) ∙ (λ i. raw-parts i ++ rest) ∙ append_assoc before (words ++ behind) rest in
    let from : drop_blanks bs ≡ w ∷ (ws ++ behind) ++ rest = ap drop_blanks bs-parts ∙ blanks-dropped before w ((ws ++ behind) ++ rest) (blanks-are (trim_end raw)) first-is in
    record {
      before = before;
      behind = behind;
      parts = raw-parts;
      blanks_before = blanks-are (trim_end raw);
      blanks_behind = trimmed-blanks raw;
      trimmed = record {
        some = λ none. absurd cc;
        first = λ b rest f. (let same : w ≡ b = cc in sym (ap is_blank same) ∙ first-is);
        last = λ front b f. trimmed-last raw (before ++ front) b (trim-parts ∙ (λ i. before ++ f i) ∙ sym (append_assoc before front (b ∷ [])));
      };
      begins = ap is_forbidden (sym (append_assoc words behind (93 ∷ []))) ∙ forbidden-behind w (ws ++ behind) (93 ∷ []) rest refl (ends-space (end_of rest) rest ends) ∙ sym (ap is_forbidden from) ∙ begin.0;
      no_comma = cut.no_comma;
      no_bracket = cut.no_bracket;
      no_open_bracket = λ xs ys f. refuted has_inner inner_here (λ _ _. refl) words xs (91 ∷ ys) inner refl f;
      no_brace = λ xs ys f. refuted has_inner inner_here (λ _ _. refl) words xs (123 ∷ ys) inner refl f;
      no_closing_brace = λ xs ys f. refuted has_inner inner_here (λ _ _. refl) words xs (125 ∷ ys) inner refl f;
      no_key = λ xs ys f. refuted has_colon colon_here (λ _ _. refl) words xs (58 ∷ 32 ∷ ys) colon refl f;
      no_colon_end = λ xs f. refuted has_colon colon_here (λ _ _. refl) words xs (58 ∷ []) colon refl f;
      no_comment = cut.no_comment;
      tabs = no-tabs raw begin.1;
    }

-- ---- a quoted scalar in a place

pub blanks-no_quote : (bs : List ℕ) → AreBlanks bs → head_is 39 bs ≡ false
blanks-no_quote [] are = refl
blanks-no_quote (b ∷ bs) are = ne_eqb 39 b (λ e. both_ways (is_blank b) (ap is_blank (sym e)) (and_parts (is_blank b) (list_all is_blank bs) are).0)

-- nothing but blanks
pub nil-blanks : (bs : List ℕ) → is_nil (drop_blanks bs) ≡ true → AreBlanks bs
nil-blanks bs e = ap (list_all is_blank) (blanks-parted bs ∙ (λ i. take (blanks bs) bs ++ nil-is (drop_blanks bs) e i) ∙ append-nil (take (blanks bs) bs)) ∙ blanks-are bs
  where
    nil-is : (d : List ℕ) → is_nil d ≡ true → d ≡ []
    nil-is [] e = refl
    nil-is (d ∷ ds) e = absurd cc

-- ---- a place

-- what comes before the comma or bracket of a place
pub record PlaceIs (bs : List ℕ) (v : Value) (e : End) : Type 0 where
  pub raw : List ℕ
  pub behind : List ℕ
  pub parts : bs ≡ raw ++ behind
  pub is : IsPlace raw v
  pub ends : Ends e behind

quoted-place_is : (bs : List ℕ) (o : Option Quoted) → quoted (drop_blanks bs) ≡ o → (quoted_place o).codes ≡ [] → (quoted_place o).end ≢ missing → PlaceIs bs (quoted_place o).value (quoted_place o).end
quoted-place_is bs None read codes some = absurd (some refl)
quoted-place_is bs (Some q) read codes some =
    let is : IsQuoted (drop_blanks bs) q = quoted-is (drop_blanks bs) q read in
    let raw : List ℕ = take (place_len 39 q.rest) q.rest in
    let tail : List ℕ = drop (place_len 39 q.rest) q.rest in
    let wrong = when-no q.wrong Y7 (when (has_tab_after raw) Y9 ++ when (not (is_nil (drop_blanks raw))) Y11) codes in
    let tab = when-no (has_tab_after raw) Y9 (when (not (is_nil (drop_blanks raw))) Y11) wrong.1 in
    let are : AreBlanks raw = nil-blanks raw (not-false (is_nil (drop_blanks raw)) (when-none (not (is_nil (drop_blanks raw))) Y11 tab.1)) in
    let h : Shorter (drop_blanks bs) q raw tail = shorter (drop_blanks bs) raw tail q is (sym (take-append-drop (place_len 39 q.rest) q.rest)) (blanks-no_quote raw are) in
    let before : List ℕ = take (blanks bs) bs in
    record {
      raw = before ++ h.inner;
      behind = tail;
      parts = blanks-parted bs ∙ (λ i. before ++ h.parts i) ∙ sym (append_assoc before h.inner tail);
      is = in_quotes q.text (record {
        before = before;
        inner = h.inner;
        behind = raw;
        parts = refl;
        blanks_before = blanks-are bs;
        blanks_behind = are;
        scalar = subst (λ w. IsQuoted h.inner (record { text = q.text; wrong = w; rest = raw })) wrong.0 h.scalar;
      }) refl;
      ends = ends-is tail some;
    }

pub place-is : (bs : List ℕ) → (place bs).codes ≡ [] → (place bs).end ≢ missing → PlaceIs bs (place bs).value (place bs).end
place-is bs =
    let raw : List ℕ = take (place_len 44 bs) bs in
    let behind : List ℕ = drop (place_len 44 bs) bs in
    cond_both (is_quote (drop_blanks bs)) _ _ (λ (p : Place). p.codes ≡ [] → p.end ≢ missing → PlaceIs bs p.value p.end) (λ _. quoted-place_is bs (quoted (drop_blanks bs)) refl)
    (λ _ codes some.
    let ends = ends-is behind some in
    let words : List ℕ = drop_blanks (trim_end raw) in
    record { raw = raw; behind = behind; parts = sym (take-append-drop (place_len 44 bs) bs); is = plain words (plain-is bs words refl ends codes) refl; ends = ends })

-- ---- a list

-- a list is closed: what comes before its closing bracket, and what follows
record PlacesAre (bs : List ℕ) (l : Listed) : Type 0 where
  rest : List ℕ
  closed : l.rest ≡ Some rest
  inner : List ℕ
  parts : bs ≡ inner ++ 93 ∷ rest
  are : ArePlaces inner l.members

places-parts : (bs raw behind r inner rest : List ℕ) → bs ≡ raw ++ behind → behind ≡ 44 ∷ r → r ≡ inner ++ 93 ∷ rest → bs ≡ (raw ++ 44 ∷ inner) ++ 93 ∷ rest
places-parts bs raw behind r inner rest parts ends others = parts ∙ ap (λ (x : List ℕ). raw ++ x) (ends ∙ λ i. 44 ∷ others i) ∙ sym (append_assoc raw (44 ∷ inner) (93 ∷ rest))

places-are : (n : ℕ) (bs : List ℕ) → length bs < n → (places n bs).codes ≡ [] → PlacesAre bs (places n bs)
places-are zero bs lt codes = absurd (omega arith)
places-are (suc n) bs lt codes = by (λ r l f. places-are n r l f) (place bs).end refl (codes-no (place bs).codes (after_place (place bs).end (λ r. places n r)).codes codes)
  where
    by : ((r : List ℕ) → length r < n → (places n r).codes ≡ [] → PlacesAre r (places n r)) → (e : End) → (place bs).end ≡ e → ((place bs).codes ≡ []) × ((after_place e (λ r. places n r)).codes ≡ [])
        → PlacesAre bs (with_place (place bs).value (place bs).codes (after_place e (λ r. places n r)))
    by further (comma r) end-is codes =
        let h = subst (PlaceIs bs (place bs).value) end-is (place-is bs codes.0 (λ bad. absurd cc)) in
        let whole : bs ≡ h.raw ++ 44 ∷ r = h.parts ∙ λ i. h.raw ++ h.ends i in
        let size : length bs ≡ length h.raw + suc (length r) = ap length whole ∙ length-append h.raw (44 ∷ r) in
        let m : PlacesAre r (places n r) = further r (omega arith) codes.1 in
        record {
          rest = m.rest;
          closed = m.closed;
          inner = h.raw ++ 44 ∷ m.inner;
          parts = places-parts bs h.raw h.behind r m.inner m.rest h.parts h.ends m.parts;
          are = more (h.raw ++ 44 ∷ m.inner) h.raw m.inner (place bs).value (places n r).members (refl {a = h.raw ++ 44 ∷ m.inner}) h.is m.are;
        }
    by further (bracket r) end-is codes =
        let h = subst (PlaceIs bs (place bs).value) end-is (place-is bs codes.0 (λ bad. absurd cc)) in
        record { rest = r; closed = refl; inner = h.raw; parts = h.parts ∙ λ i. h.raw ++ h.ends i; are = last h.raw (place bs).value h.is }
    by further missing end-is codes = absurd cc

-- a list without codes is closed
pub list-closed : (bs : List ℕ) → head_is 91 bs ≡ true → (listed bs).codes ≡ [] → (rest : List ℕ) × ((listed bs).rest ≡ Some rest) × IsList bs (listed bs).members rest
list-closed bs opens codes =
    let w : List ℕ = tail_of bs in
    let first : bs ≡ 91 ∷ w = head-tail 91 bs opens in
    let size : length bs ≡ suc (length w) = ap length first in
    cond_both (head_is 93 (drop_blanks w)) _ _ (λ (l : Listed). l.codes ≡ [] → (rest : List ℕ) × (l.rest ≡ Some rest) × IsList bs l.members rest)
    (λ head _.
    let rest : List ℕ = tail_of (drop_blanks w) in
    let whole : w ≡ take (blanks w) w ++ 93 ∷ rest = blanks-parted w ∙ λ i. take (blanks w) w ++ head-tail 93 (drop_blanks w) head i in
    (rest, refl, empty (take (blanks w) w) (blanks-are w) (first ∙ λ i. 91 ∷ whole i) refl))
    (λ _ none. let h = places-are (length bs) w (omega arith) none in (h.rest, h.closed, flow.places h.inner h.are (first ∙ λ i. 91 ∷ h.parts i))) codes

pub list-is : (bs rest : List ℕ) → head_is 91 bs ≡ true → (listed bs).codes ≡ [] → (listed bs).rest ≡ Some rest → IsList bs (listed bs).members rest
list-is bs rest opens codes is =
    let h = list-closed bs opens codes in
    let both : Some h.0 ≡ Some rest = sym h.1 ∙ is in
    let same : h.0 ≡ rest = cc in
    subst (IsList bs (listed bs).members) same h.2

-- ======== what is written is read

-- ---- searches that find nothing

lacks-tail : (b c : ℕ) (bs : List ℕ) → Lacks b (c ∷ bs) → Lacks b bs
lacks-tail b c bs lacks xs ys e = lacks (c ∷ xs) ys (λ i. c ∷ e i)

lacks-first : (b c : ℕ) (bs : List ℕ) → Lacks b (c ∷ bs) → (c == b) ≡ false
lacks-first b c bs lacks = ne_eqb c b (λ e. lacks [] bs (λ i. e i ∷ bs))

lacks-at : (b d : ℕ) (bs xs ys : List ℕ) → Lacks b bs → bs ≡ xs ++ d ∷ ys → (d == b) ≡ true → ⊥
lacks-at b d bs xs ys lacks e f = lacks xs ys (e ∙ λ i. xs ++ eqb-true d b f i ∷ ys)

-- a byte before what begins with another
pair-at : (b c d : ℕ) (bs xs ys : List ℕ) → LacksPair b c bs → bs ≡ xs ++ d ∷ ys → (d == b) ≡ true → head_is c ys ≡ true → ⊥
pair-at b c d bs xs ys lacks e f g = lacks xs (tail_of ys) (e ∙ λ i. xs ++ eqb-true d b f i ∷ head-tail c ys g i)

pub tabs-none : (bs : List ℕ) → LacksPair 45 9 bs → LacksPair 58 9 bs → has_tab_after bs ≡ false
tabs-none bs dash colon = nowhere has_tab_after tab_here (λ _ _. refl) refl bs by
  where
    by : (xs : List ℕ) (b : ℕ) (ys : List ℕ) → bs ≡ xs ++ b ∷ ys → tab_here b ys ≡ true → ⊥
    by xs b ys e t =
        let at = and_parts ((b == 45) || (b == 58)) (head_is 9 ys) t in
        elim (or_cases (b == 45) (b == 58) at.0) [ inl f ↦ pair-at 45 9 b bs xs ys dash e f at.1 | inr f ↦ pair-at 58 9 b bs xs ys colon e f at.1 ]

colon-none : (bs : List ℕ) → LacksPair 58 32 bs → ((front : List ℕ) → bs ≢ front ++ 58 ∷ []) → has_colon bs ≡ false
colon-none bs pair end = nowhere has_colon colon_here (λ _ _. refl) refl bs (λ xs b ys e t. let at = and_parts (b == 58) (space_next ys) t in by xs ys (e ∙ λ i. xs ++ eqb-true b 58 at.0 i ∷ ys) at.1)
  where
    by : (xs ys : List ℕ) → bs ≡ xs ++ 58 ∷ ys → space_next ys ≡ true → ⊥
    by xs [] e t = end xs e
    by xs (c ∷ ys) e t = pair xs ys (e ∙ λ i. xs ++ 58 ∷ eqb-true c 32 t i ∷ ys)

inner-none : (bs : List ℕ) → Lacks 91 bs → Lacks 123 bs → Lacks 125 bs → LacksPair 58 32 bs → has_inner bs ≡ false
inner-none bs opening brace closing key = nowhere has_inner inner_here (λ _ _. refl) refl bs by
  where
    by : (xs : List ℕ) (b : ℕ) (ys : List ℕ) → bs ≡ xs ++ b ∷ ys → inner_here b ys ≡ true → ⊥
    by xs b ys e t = elim (or_cases ((b == 91) || ((b == 123) || (b == 125))) ((b == 58) && head_is 32 ys) t) [
      | inl f ↦ elim (or_cases (b == 91) ((b == 123) || (b == 125)) f) [
        | inl g ↦ lacks-at 91 b bs xs ys opening e g
        | inr g ↦ elim (or_cases (b == 123) (b == 125) g) [ inl h ↦ lacks-at 123 b bs xs ys brace e h | inr h ↦ lacks-at 125 b bs xs ys closing e h ]
      ]
      | inr f ↦ let at = and_parts (b == 58) (head_is 32 ys) f in pair-at 58 32 b bs xs ys key e at.0 at.1
    ]

-- ---- blanks

pub blanks-lack : (bs : List ℕ) (b : ℕ) → AreBlanks bs → is_blank b ≡ false → Lacks b bs
blanks-lack [] b are other = lacks-none b
blanks-lack (c ∷ bs) b are other =
    let at = and_parts (is_blank c) (list_all is_blank bs) are in
    lacks-more b c bs (ne_eqb c b (λ e. both_ways (is_blank b) other (sym (ap is_blank e) ∙ at.0))) (blanks-lack bs b at.1 other)

pub blanks-tab : (bs : List ℕ) → AreBlanks bs → has_tab_after bs ≡ false
blanks-tab bs are = tabs-none bs (λ xs ys. blanks-lack bs 45 are refl xs (9 ∷ ys)) (λ xs ys. blanks-lack bs 58 are refl xs (9 ∷ ys))

blanks-gone : (bs : List ℕ) → AreBlanks bs → drop_blanks bs ≡ []
blanks-gone [] are = refl
blanks-gone (b ∷ bs) are = let at = and_parts (is_blank b) (list_all is_blank bs) are in blank-on b bs at.0 ∙ blanks-gone bs at.1

blanks-trimmed : (bs : List ℕ) → AreBlanks bs → trimmed_len bs ≡ 0
blanks-trimmed [] are = refl
blanks-trimmed (b ∷ bs) are =
    let at = and_parts (is_blank b) (list_all is_blank bs) are in
    λ i. cond ((blanks-trimmed bs at.1 i == 0) && at.0 i) 0 (1 + blanks-trimmed bs at.1 i)

-- a text that ends in no blank, before blanks
words-trimmed : (xs behind : List ℕ) → xs ≢ [] → ((front : List ℕ) (b : ℕ) → xs ≡ front ++ b ∷ [] → is_blank b ≡ false) → AreBlanks behind → trimmed_len (xs ++ behind) ≡ length xs
words-trimmed [] behind some ends are = absurd (some refl)
words-trimmed (x ∷ []) behind some ends are =
    λ i. cond ((blanks-trimmed behind are i == 0) && ends [] x refl i) 0 (1 + blanks-trimmed behind are i)
words-trimmed (x ∷ y ∷ xs) behind some ends are =
    let lt : 0 < length (y ∷ xs) = omega arith in
    ap (λ (n : ℕ). cond ((n == 0) && is_blank x) 0 (1 + n)) (words-trimmed (y ∷ xs) behind (λ e. absurd cc) (λ front b e. ends (x ∷ front) b (λ i. x ∷ e i)) are)
    ∙ full (length (y ∷ xs)) x lt

-- and behind some bytes
all-trimmed : (before xs : List ℕ) (n : ℕ) → trimmed_len xs ≡ n → 0 < n → trimmed_len (before ++ xs) ≡ length before + n
all-trimmed [] xs n e lt = let z : n ≡ 0 + n = omega arith in e ∙ z
all-trimmed (b ∷ before) xs n e lt =
    let some : 0 < length before + n = omega arith in
    let one : suc (length before + n) ≡ suc (length before) + n = omega arith in
    ap (λ (k : ℕ). cond ((k == 0) && is_blank b) 0 (1 + k)) (all-trimmed before xs n e lt) ∙ full (length before + n) b some ∙ one

words-nil : (xs : List ℕ) → xs ≢ [] → 0 < length xs
words-nil [] some = absurd (some refl)
words-nil (x ∷ xs) some = omega arith

trim-words : (before words behind : List ℕ) → IsTrimmed words → AreBlanks behind → trim_end (before ++ (words ++ behind)) ≡ before ++ words
trim-words before words behind trimmed are =
    let n : trimmed_len (before ++ (words ++ behind)) ≡ length before + length words =
    all-trimmed before (words ++ behind) (length words) (words-trimmed words behind trimmed.some trimmed.last are) (words-nil words trimmed.some) in
    ap (λ (k : ℕ). take k (before ++ (words ++ behind))) (n ∙ sym (length-append before words)) ∙ ap (take (length (before ++ words))) (sym (append_assoc before words behind)) ∙ take-append_seam (before ++ words) behind

-- ---- where a place is cut

cut-len : (before : ℕ) (raw : List ℕ) (c : ℕ) (tail : List ℕ) → Lacks 44 raw → Lacks 93 raw → HasNoComment before raw → ((c == 44) || (c == 93)) ≡ true → place_len before (raw ++ c ∷ tail) ≡ length raw
cut-len before [] c tail commas brackets clear ends = λ i. cond (ends i || ((c == 35) && (before == 32))) 0 (1 + place_len c tail)
cut-len before (b ∷ raw) c tail commas brackets clear ends =
    let hash : ((b == 35) && (before == 32)) ≡ false =
    false_from_ne_true _ (λ e. let at = and_parts (b == 35) (before == 32) e in clear [] raw (λ i. eqb-true b 35 at.0 i ∷ raw) (eqb-true before 32 at.1)) in
    let goes : (((b == 44) || (b == 93)) || ((b == 35) && (before == 32))) ≡ false =
    or_from ((b == 44) || (b == 93)) _ (or_from (b == 44) (b == 93) (lacks-first 44 b raw commas) (lacks-first 93 b raw brackets)) hash in
    (λ i. cond (goes i) 0 (1 + cut-len b raw c tail (lacks-tail 44 b raw commas) (lacks-tail 93 b raw brackets) (λ xs ys e. clear (b ∷ xs) ys (λ j. b ∷ e j)) ends i))
    ∙ one-more (length raw)

cut-to : (before : ℕ) (raw : List ℕ) (c : ℕ) (tail : List ℕ) → Lacks 44 raw → Lacks 93 raw → HasNoComment before raw → ((c == 44) || (c == 93)) ≡ true
    → cut_place before (raw ++ c ∷ tail) ≡ record { raw = raw; end = end_of (c ∷ tail) }
cut-to before raw c tail commas brackets clear ends =
    (λ i. let n = cut-len before raw c tail commas brackets clear ends i in record { raw = take n (raw ++ c ∷ tail); end = end_of (drop n (raw ++ c ∷ tail)) })
    ∙ λ i. record { raw = take-append_seam raw (c ∷ tail) i; end = end_of (drop-append_seam raw (c ∷ tail) i) }

pub cut-of : (before : ℕ) (raw tail : List ℕ) (e : End) → Lacks 44 raw → Lacks 93 raw → HasNoComment before raw → Ends e tail → cut_place before (raw ++ tail) ≡ record { raw = raw; end = e }
cut-of before raw tail (comma rest) commas brackets clear is = ap (λ (x : List ℕ). cut_place before (raw ++ x)) is ∙ cut-to before raw 44 rest commas brackets clear refl
cut-of before raw tail (bracket rest) commas brackets clear is = ap (λ (x : List ℕ). cut_place before (raw ++ x)) is ∙ cut-to before raw 93 rest commas brackets clear refl
cut-of before raw tail missing commas brackets clear is = absurd is

-- ---- a place

-- the place at the front of these bytes, with no code, and no bracket first
record ReadsPlace (bs : List ℕ) (v : Value) (e : End) : Type 0 where
  read : place bs ≡ record { value = v; codes = []; end = e }
  begins : head_is 93 (drop_blanks bs) ≡ false

not-quote : (b : ℕ) (bs : List ℕ) → is_indicator b ≡ false → (is_quote (b ∷ bs) ≡ false) × (head_is 93 (b ∷ bs) ≡ false)
not-quote b bs letter = (or_from (39 == b) (34 == b) (other 39 refl) (other 34 refl), other 93 refl)
  where
    other : (c : ℕ) → is_indicator c ≡ true → (c == b) ≡ false
    other c is = ne_eqb c b (λ e. both_ways (is_indicator b) letter (sym (ap is_indicator e) ∙ is))

reads-plain : (raw words tail : List ℕ) (e : End) → Ends e tail → IsPlain raw words → ReadsPlace (raw ++ tail) (plain_value words) e
reads-plain raw [] tail e ends h = absurd (h.trimmed.some refl)
reads-plain raw (w ∷ ws) tail e ends h =
    let words : List ℕ = w ∷ ws in
    let behind : List ℕ = (ws ++ h.behind) ++ tail in
    let first-is : is_blank w ≡ false = h.trimmed.first w ws refl in
    let from : drop_blanks (raw ++ tail) ≡ w ∷ behind =
    (λ i. drop_blanks (h.parts i ++ tail)) ∙ ap drop_blanks (append_assoc h.before (words ++ h.behind) tail) ∙ blanks-dropped h.before w behind h.blanks_before first-is in
    let trimmed : drop_blanks (trim_end raw) ≡ words =
    (λ i. drop_blanks (trim_end (h.parts i))) ∙ ap drop_blanks (trim-words h.before words h.behind h.trimmed h.blanks_behind) ∙ blanks-dropped h.before w ws h.blanks_before first-is in
    let allowed : is_forbidden (w ∷ behind) ≡ false =
    forbidden-behind w (ws ++ h.behind) tail (93 ∷ []) (ends-space e tail ends) refl ∙ ap is_forbidden (append_assoc words h.behind (93 ∷ [])) ∙ h.begins in
    let other = not-quote w behind (or_parts (is_indicator w) (((w == 45) || ((w == 63) || (w == 58))) && space_next behind) allowed).0 in
    let cut : cut_place 44 (raw ++ tail) ≡ record { raw = raw; end = e } = cut-of 44 raw tail e h.no_comma h.no_bracket h.no_comment ends in
    let tab : has_tab_after raw ≡ false = tabs-none raw h.tabs.no_dash h.tabs.no_colon in
    let colon : has_colon words ≡ false = colon-none words h.no_key h.no_colon_end in
    let inner : has_inner words ≡ false = inner-none words h.no_open_bracket h.no_brace h.no_closing_brace h.no_key in
    record {
      read = (λ i. cond ((ap is_quote from ∙ other.0) i) (quoted_place (quoted (drop_blanks (raw ++ tail)))) (plain_place (raw ++ tail) (cut i)))
          ∙ (λ i. record { value = plain_value (trimmed i); codes = place_codes (from i) raw (trimmed i); end = e })
          ∙ λ i. record { value = plain_value words; codes = (when (allowed i || tab i) Y9 ++ when (colon i) Y11) ++ when (inner i) Y9; end = e };
      begins = ap (head_is 93) from ∙ other.1;
    }

-- it is read from more, too
pub longer : (bs tail : List ℕ) (q : Quoted) → IsQuoted bs q → head_is 39 (q.rest ++ tail) ≡ false → IsQuoted (bs ++ tail) (record { text = q.text; wrong = q.wrong; rest = q.rest ++ tail })
longer bs tail q (in_single parts rightly ends) head =
    in_single ((λ i. parts i ++ tail) ∙ λ i. 39 ∷ append_assoc (doubled q.text) (39 ∷ q.rest) tail i) rightly head
longer bs tail q (in_double between parts means) head =
    in_double between ((λ i. parts i ++ tail) ∙ λ i. 34 ∷ append_assoc between (34 ∷ q.rest) tail i) means

-- with its quote first
quote-first : (bs : List ℕ) (q : Quoted) → IsQuoted bs q → (b : ℕ) × (rest : List ℕ) × (bs ≡ b ∷ rest) × (is_blank b ≡ false) × (is_quote (b ∷ []) ≡ true) × ((93 == b) ≡ false)
quote-first bs q (in_single parts rightly ends) = (39, doubled q.text ++ 39 ∷ q.rest, parts, refl, refl, refl)
quote-first bs q (in_double between parts means) = (34, between ++ 34 ∷ q.rest, parts, refl, refl, refl)

no-quote_behind : (behind tail : List ℕ) (e : End) → AreBlanks behind → Ends e tail → head_is 39 (behind ++ tail) ≡ false
no-quote_behind [] tail (comma rest) are is = ap (head_is 39) is
no-quote_behind [] tail (bracket rest) are is = ap (head_is 39) is
no-quote_behind [] tail missing are is = absurd is
no-quote_behind (b ∷ behind) tail e are is = blanks-no_quote (b ∷ behind) are

reads-in_quotes : (raw words tail : List ℕ) (e : End) → Ends e tail → IsQuotedPlace raw words → ReadsPlace (raw ++ tail) (text words) e
reads-in_quotes raw words tail e ends h =
    let at = quote-first h.inner (record { text = words; wrong = false; rest = h.behind }) h.scalar in
    let from : drop_blanks (raw ++ tail) ≡ at.0 ∷ at.1 ++ tail =
    (λ i. drop_blanks (h.parts i ++ tail)) ∙ ap drop_blanks (append_assoc h.before h.inner tail) ∙ (λ i. drop_blanks (h.before ++ (at.2 i ++ tail)))
    ∙ blanks-dropped h.before at.0 (at.1 ++ tail) h.blanks_before at.3 in
    let q : Quoted = record { text = words; wrong = false; rest = h.behind ++ tail } in
    let scalar : quoted (drop_blanks (raw ++ tail)) ≡ Some q =
    ap quoted (from ∙ λ i. sym at.2 i ++ tail)
    ∙ is-quoted (h.inner ++ tail) q (longer h.inner tail (record { text = words; wrong = false; rest = h.behind }) h.scalar (no-quote_behind h.behind tail e h.blanks_behind ends)) in
    let cut : cut_place 39 (h.behind ++ tail) ≡ record { raw = h.behind; end = e } =
    cut-of 39 h.behind tail e (blanks-lack h.behind 44 h.blanks_behind refl) (blanks-lack h.behind 93 h.blanks_behind refl) (λ xs ys f _. blanks-lack h.behind 35 h.blanks_behind refl xs ys f) ends in
    record {
      read = (λ i. cond ((ap is_quote from ∙ at.4) i) (quoted_place (scalar i)) (plain_place (raw ++ tail) (cut_place 44 (raw ++ tail))))
          ∙ ap (behind_quoted q) cut
          ∙ λ i. record { value = text words; codes = when (blanks-tab h.behind h.blanks_behind i) Y9 ++ when (not (is_nil (blanks-gone h.behind h.blanks_behind i))) Y11; end = e };
      begins = ap (head_is 93) from ∙ at.5;
    }

reads-place : (raw tail : List ℕ) (v : Value) (e : End) → Ends e tail → IsPlace raw v → ReadsPlace (raw ++ tail) v e
reads-place raw tail v e ends (plain words h is) = subst (λ (x : Value). ReadsPlace (raw ++ tail) x e) (sym is) (reads-plain raw words tail e ends h)
reads-place raw tail v e ends (in_quotes words h is) = subst (λ (x : Value). ReadsPlace (raw ++ tail) x e) (sym is) (reads-in_quotes raw words tail e ends h)

-- ---- a list

reads-places : (n : ℕ) (inner : List ℕ) (vs : Members) (rest : List ℕ) → length inner < n → ArePlaces inner vs
    → (places n (inner ++ 93 ∷ rest) ≡ record { members = vs; rest = Some rest; codes = [] }) × (head_is 93 (drop_blanks (inner ++ 93 ∷ rest)) ≡ false)
reads-places zero inner vs rest lt h = absurd (omega arith)
reads-places (suc n) inner vs rest lt (last raw v h) =
    let one = reads-place raw (93 ∷ rest) v (bracket rest) refl h in
    (ap (λ (p : Place). with_place p.value p.codes (after_place p.end (λ r. places n r))) one.read, one.begins)
reads-places (suc n) inner vs rest lt (more all raw others v ms parts h are) =
    let one = reads-place raw (44 ∷ (others ++ 93 ∷ rest)) v (comma (others ++ 93 ∷ rest)) refl h in
    let whole : inner ++ 93 ∷ rest ≡ raw ++ (44 ∷ (others ++ 93 ∷ rest)) = (λ i. parts i ++ 93 ∷ rest) ∙ append_assoc raw (44 ∷ others) (93 ∷ rest) in
    let size : length inner ≡ length raw + suc (length others) = ap length parts ∙ length-append raw (44 ∷ others) in
    let less : length others < n = omega arith in
    let rec = reads-places n others ms rest less are in (
      ap (places (suc n)) whole
          ∙ ap (λ (p : Place). with_place p.value p.codes (after_place p.end (λ r. places n r))) one.read
          ∙ ap (with_place v []) rec.0,
      ap (λ (x : List ℕ). head_is 93 (drop_blanks x)) whole ∙ one.begins,
    )

pub is-list : (bs : List ℕ) (vs : Members) (rest : List ℕ) → IsList bs vs rest → listed bs ≡ record { members = vs; rest = Some rest; codes = [] }
is-list bs vs rest (empty xs are parts is) =
    ap listed parts
    ∙ (λ i. let d = blanks-dropped xs 93 rest are refl i in cond (head_is 93 d) (record { members = no_members; rest = Some (tail_of d); codes = [] }) (places (length (91 ∷ (xs ++ 93 ∷ rest))) (xs ++ 93 ∷ rest)))
    ∙ λ i. record { members = sym is i; rest = Some rest; codes = [] }
is-list bs vs rest (flow.places inner are parts) =
    let n : ℕ = length (91 ∷ (inner ++ 93 ∷ rest)) in
    let more-than : length inner < n = omega (arith, length-append inner (93 ∷ rest)) in
    let h = reads-places n inner vs rest more-than are in
    ap listed parts ∙ (λ i. cond (h.1 i) (record { members = no_members; rest = Some (tail_of (drop_blanks (inner ++ 93 ∷ rest))); codes = [] }) (places n (inner ++ 93 ∷ rest))) ∙ h.0
