-- No `-` or `:` stands before a tab in a line without codes, but in quotes and comments.
use Rattle.std.proofs.Common.{◌≡◌, ℕ, zero, suc, ◌+◌, ◌<◌, true, false, cond, inl, inr, List, [], ◌∷◌, ◌++◌, length, take, drop, Option, Some, None, refl, sym, ◌∙◌, ap, subst}
use Rattle.std.proofs.Common.{append_assoc, length-drop, arith, ◌==◌, ◌&&◌, ◌||◌, not, is_some}
use Rattle.std.proofs.lemmas.Bool.{eqb-true, ne_eqb, and_parts, and_right, or_parts, or_from, both_ways, cond_both, cases_Bool, or_cases, cond-false}
use Rattle.std.proofs.lemmas.List.{take-append-drop}
use Rattle.ci_yaml_lines.specs.Prelude.{Y2, Y6, Y7, Y9, Y11, Members, is_blank, blanks, drop_blanks, trim_end, space_next, head_is, tail_of, comment_len, before_comment}
use Rattle.ci_yaml_lines.specs.Prelude.{only_comment, has_tab_after, is_forbidden, has_colon, when, is_quote, listed, Chomp, clip, strip, keep, behind_value, digit_next}
use Rattle.ci_yaml_lines.specs.Prelude.{header_rest, header_of, written_quoted, written_list, written_plain, written_at, written, rest_codes, key_len, split_colon, plain_key}
use Rattle.ci_yaml_lines.specs.Prelude.{is_colon, quoted_key, keyed, is_dash, ParsedLine, header_code, keyed_or_bare, spaces, item, dashed, parse_entries, is_document_mark}
use Rattle.ci_yaml_lines.specs.Prelude.{parse_content, is_skipped, has_control, has_byte_order_mark, parse_line, last_of, IsComment, comment, AreBlanks, HasNoMarkBeforeTab}
use Rattle.ci_yaml_lines.specs.Prelude.{IsPlace, ArePlaces, last, IsList, empty, IsClear, unquoted}
use Rattle.ci_yaml_lines.specs.Scalar.{Quoted}
use Rattle.ci_yaml_lines.specs.Scalar as scalar
use Rattle.ci_yaml_lines.specs.Line.{Keyed, Item, Split, Written}
use Rattle.ci_yaml_lines.specs.Comment.{nothing}
use Rattle.ci_yaml_lines.specs.FlowList.{plain, in_quotes, more}
use Rattle.ci_yaml_lines.specs.FlowList as flow
use Rattle.ci_yaml_lines.specs.Tabs.{quoted}
use Rattle.ci_yaml_lines.proofs.Comment.{comment-alike, cut-is, only-is}
use Rattle.ci_yaml_lines.proofs.Quoting.{quoted-is}
use Rattle.ci_yaml_lines.proofs.FlowLists.{when-no, when-none, codes-no, head-tail, no-tabs, tabs-none, blank-on, blank-off, blanks-are, blanks-parted, blanks-tab, blanks-no_quote}
use Rattle.ci_yaml_lines.proofs.FlowLists.{longer, list-closed}
use Rattle.ci_yaml_lines.proofs.Lists.{one-more}

-- ---- a text behind another

tabs-no : (bs : List ℕ) → HasNoMarkBeforeTab bs → has_tab_after bs ≡ false
tabs-no bs h = tabs-none bs h.no_dash h.no_colon

join : (b : ℕ) (xs ys : List ℕ) → has_tab_after (b ∷ xs) ≡ false → has_tab_after (last_of b xs ∷ ys) ≡ false → has_tab_after (b ∷ (xs ++ ys)) ≡ false
join b [] ys e f = f
join b (x ∷ xs) ys e f = let at = or_parts (((b == 45) || (b == 58)) && (9 == x)) (has_tab_after (x ∷ xs)) e in or_from _ (has_tab_after (x ∷ (xs ++ ys))) at.0 (join x xs ys at.1 f)

last-append : (b : ℕ) (xs ys : List ℕ) → last_of b (xs ++ ys) ≡ last_of (last_of b xs) ys
last-append b [] ys = refl
last-append b (x ∷ xs) ys = last-append x xs ys

clear-by : (b a : ℕ) (xs bs : List ℕ) → a ≡ last_of b xs → has_tab_after (b ∷ xs) ≡ false → IsClear a bs → IsClear b (xs ++ bs)
clear-by b a xs bs is tab (unquoted a' bs' front behind parts tabs ends) =
    unquoted b (xs ++ bs) (xs ++ front) behind ((λ i. xs ++ parts i) ∙ sym (append_assoc xs front behind))
    (no-tabs (b ∷ (xs ++ front)) (join b xs front tab ((λ i. has_tab_after (sym is i ∷ front)) ∙ tabs-no (a ∷ front) tabs)))
    (comment-alike a b front (xs ++ front) behind ((λ i. last_of (is i) front) ∙ sym (last-append b xs front)) ends)
clear-by b a xs bs is tab (quoted a' bs' front rest q parts tabs scalar clear) =
    quoted b (xs ++ bs) (xs ++ front) rest q ((λ i. xs ++ parts i) ∙ sym (append_assoc xs front rest))
    (no-tabs (b ∷ (xs ++ front)) (join b xs front tab ((λ i. has_tab_after (sym is i ∷ front)) ∙ tabs-no (a ∷ front) tabs))) scalar clear

clear-behind : (b : ℕ) (xs bs : List ℕ) → has_tab_after (b ∷ xs) ≡ false → IsClear (last_of b xs) bs → IsClear b (xs ++ bs)
clear-behind b xs bs tab clear = clear-by b (last_of b xs) xs bs refl tab clear

-- a byte before what begins with no tab
first-tab : (b : ℕ) (bs : List ℕ) → head_is 9 bs ≡ false → has_tab_after bs ≡ false → has_tab_after (b ∷ bs) ≡ false
first-tab b bs head tab = or_from (((b == 45) || (b == 58)) && head_is 9 bs) (has_tab_after bs) (and_right ((b == 45) || (b == 58)) (head_is 9 bs) head) tab

-- one that is neither a dash nor a colon, before any
other-tab : (b : ℕ) (bs : List ℕ) → ((b == 45) || (b == 58)) ≡ false → has_tab_after bs ≡ false → has_tab_after (b ∷ bs) ≡ false
other-tab b bs other tab = or_from (((b == 45) || (b == 58)) && head_is 9 bs) (has_tab_after bs) (λ i. other i && head_is 9 bs) tab

-- behind one byte that isn't a tab
clear-one : (b c : ℕ) (bs : List ℕ) → (9 == c) ≡ false → IsClear c bs → IsClear b (c ∷ bs)
clear-one b c bs is clear = clear-behind b (c ∷ []) bs (first-tab b (c ∷ []) is (first-tab c [] refl refl)) clear

head-take : (n : ℕ) (bs : List ℕ) → head_is 9 bs ≡ false → head_is 9 (take n bs) ≡ false
head-take zero bs e = refl
head-take (suc n) [] e = refl
head-take (suc n) (b ∷ bs) e = e

space-head : (bs : List ℕ) → space_next bs ≡ true → head_is 9 bs ≡ false
space-head [] e = refl
space-head (b ∷ bs) e = λ i. 9 == eqb-true b 32 e i

-- ---- what follows a value

clear-value_behind : (b : ℕ) (bs : List ℕ) → behind_value b bs ≡ [] → IsClear b bs
clear-value_behind b bs codes =
    let cut = cut-is b bs in
    let at = when-no (has_tab_after (b ∷ before_comment b bs)) Y9 (when (not (only_comment b bs)) Y11) codes in
    unquoted b bs (before_comment b bs) (drop (comment_len b bs) bs) cut.parts (no-tabs (b ∷ before_comment b bs) at.0) cut.ends

clear-only : (b : ℕ) (bs : List ℕ) → only_comment b bs ≡ true → head_is 9 bs ≡ false → IsClear b bs
clear-only b bs only head =
    let cut = cut-is b bs in
    let front : List ℕ = before_comment b bs in
    unquoted b bs front (drop (comment_len b bs) bs) cut.parts (no-tabs (b ∷ front) (first-tab b front (head-take (comment_len b bs) bs head) (blanks-tab front (sym (only-is b bs) ∙ only)))) cut.ends

-- ---- a list

clear-place : (b : ℕ) (raw tail : List ℕ) (v : _) → ((b == 45) || (b == 58)) ≡ false → IsPlace raw v → ((c : ℕ) → IsClear c tail) → head_is 39 tail ≡ false → IsClear b (raw ++ tail)
clear-place b raw tail v other (plain words h is) clear head = clear-behind b raw tail (other-tab b raw other (tabs-no raw h.tabs)) (clear (last_of b raw))
clear-place b raw tail v other (in_quotes words h is) clear head =
    quoted b (raw ++ tail) h.before (h.inner ++ tail) (record { text = words; wrong = false; rest = h.behind ++ tail }) ((λ i. h.parts i ++ tail) ∙ append_assoc h.before h.inner tail)
    (no-tabs (b ∷ h.before) (other-tab b h.before other (blanks-tab h.before h.blanks_before)))
    (longer h.inner tail (record { text = words; wrong = false; rest = h.behind }) h.scalar (no-quote h.behind h.blanks_behind))
    (clear-behind 39 h.behind tail (other-tab 39 h.behind refl (blanks-tab h.behind h.blanks_behind)) (clear (last_of 39 h.behind)))
  where
    no-quote : (bs : List ℕ) → AreBlanks bs → head_is 39 (bs ++ tail) ≡ false
    no-quote [] are = head
    no-quote (c ∷ bs) are = blanks-no_quote (c ∷ bs) are

clear-places : (b : ℕ) (fill rest : List ℕ) (vs : Members) → ((b == 45) || (b == 58)) ≡ false → ArePlaces fill vs → IsClear 93 rest → IsClear b (fill ++ 93 ∷ rest)
clear-places b fill rest vs other (last raw v h) clear = clear-place b raw (93 ∷ rest) v other h (λ c. clear-one c 93 rest refl clear) refl
clear-places b fill rest vs other (more all raw others v ms parts h are) clear =
    let further : IsClear 44 (others ++ 93 ∷ rest) = clear-places 44 others rest ms refl are clear in
    subst (IsClear b) (sym ((λ i. parts i ++ 93 ∷ rest) ∙ append_assoc raw (44 ∷ others) (93 ∷ rest)))
    (clear-place b raw (44 ∷ (others ++ 93 ∷ rest)) v other h (λ c. clear-one c 44 (others ++ 93 ∷ rest) refl further) refl)

clear-list : (b : ℕ) (bs rest : List ℕ) (vs : Members) → IsList bs vs rest → IsClear 93 rest → IsClear b bs
clear-list b bs rest vs (empty xs are parts is) clear =
    subst (IsClear b) (sym parts)
    (clear-one b 91 (xs ++ 93 ∷ rest) refl (clear-behind 91 xs (93 ∷ rest) (other-tab 91 xs refl (blanks-tab xs are)) (clear-one (last_of 91 xs) 93 rest refl clear)))
clear-list b bs rest vs (flow.places fill are parts) clear = subst (IsClear b) (sym parts) (clear-one b 91 (fill ++ 93 ∷ rest) refl (clear-places 91 fill rest vs refl are clear))

-- ---- a value

comment-any : (b : ℕ) (front behind : List ℕ) → IsComment 0 front behind → IsComment b front behind
comment-any b [] behind (nothing e) = nothing e
comment-any b [] behind (comment words e space) = absurd (omega (arith, space))
comment-any b (c ∷ front) behind ends = comment-alike 0 b (c ∷ front) (c ∷ front) behind refl ends

clear-header : (b : ℕ) (how : Chomp) (bs : List ℕ) → (header_rest how b bs).codes ≡ [] → IsClear b bs
clear-header b how bs codes = clear-value_behind b bs (when-no (digit_next bs) Y9 (behind_value b bs) codes).1

clear-header_of : (bs : List ℕ) → (header_of bs).codes ≡ [] → IsClear 124 bs
clear-header_of [] codes = clear-header 124 clip [] codes
clear-header_of (b ∷ bs) codes =
    let P : Written → Type 0 = λ w. w.codes ≡ [] → IsClear 124 (b ∷ bs) in
    cond_both (b == 45) _ _ P (λ is f. signed 45 strip is refl f)
    (λ _. cond_both (b == 43) _ _ P (λ is f. signed 43 keep is refl f) (λ _ f. clear-header 124 clip (b ∷ bs) f)) codes
  where
    signed : (n : ℕ) (how : Chomp) → (b == n) ≡ true → (9 == n) ≡ false → (header_rest how n bs).codes ≡ [] → IsClear 124 (b ∷ bs)
    signed n how is other f = subst (λ (m : ℕ). IsClear 124 (m ∷ bs)) (sym (eqb-true b n is)) (clear-one 124 n bs other (clear-header n how bs f))

-- a quoted scalar in front
clear-scalar : (b : ℕ) (w : List ℕ) (q : Quoted) → scalar.quoted w ≡ Some q → IsClear 39 q.rest → IsClear b w
clear-scalar b w q is clear = quoted b w [] w q refl (no-tabs (b ∷ []) (first-tab b [] refl refl)) (quoted-is w q is) clear

clear-quoted : (b : ℕ) (w : List ℕ) (o : Option Quoted) → scalar.quoted w ≡ o → (written_quoted o).codes ≡ [] → IsClear b w
clear-quoted b w None is codes = let bad : Y6 ∷ [] ≡ [] = codes in absurd cc
clear-quoted b w (Some q) is codes = clear-scalar b w q is (clear-value_behind 39 q.rest (when-no q.wrong Y7 (behind_value 39 q.rest) codes).1)

clear-written_list : (b : ℕ) (w : List ℕ) → head_is 91 w ≡ true → (written_list (listed w)).codes ≡ [] → IsClear b w
clear-written_list b w head codes =
    let at = codes-no (listed w).codes (rest_codes (listed w).rest) codes in
    let h = list-closed w head at.0 in
    clear-list b w h.0 (listed w).members h.2 (clear-value_behind 93 h.0 (sym (ap rest_codes h.1) ∙ at.1))

clear-plain : (b : ℕ) (w : List ℕ) → head_is 9 w ≡ false → (written_plain (before_comment 0 w)).codes ≡ [] → IsClear b w
clear-plain b w head codes =
    let raw : List ℕ = before_comment 0 w in
    let cut = cut-is 0 w in
    let form = when-no (is_forbidden raw || has_tab_after raw) Y9 (when (has_colon (trim_end raw)) Y11) codes in
    let tab = (or_parts (is_forbidden raw) (has_tab_after raw) form.0).1 in
    unquoted b w raw (drop (comment_len 0 w) w) cut.parts (no-tabs (b ∷ raw) (first-tab b raw (head-take (comment_len 0 w) w head) tab)) (comment-any b raw (drop (comment_len 0 w) w) cut.ends)

clear-at : (b : ℕ) (w : List ℕ) → head_is 9 w ≡ false → (written_at w).codes ≡ [] → IsClear b w
clear-at b w head codes =
    let P : Written → Type 0 = λ x. x.codes ≡ [] → IsClear b w in
    cond_both (is_quote w) _ _ P (λ _ f. clear-quoted b w (scalar.quoted w) refl f)
    (λ _. cond_both (head_is 91 w) _ _ P (λ is f. clear-written_list b w is f)
    (λ _. cond_both (head_is 124 w) _ _ P (λ is f. subst (IsClear b) (sym (head-tail 124 w is)) (clear-one b 124 (tail_of w) refl (clear-header_of (tail_of w) f))) (λ _ f. clear-plain b w head f))) codes

-- no tab comes behind blanks
blank-tab : (bs : List ℕ) → head_is 9 (drop_blanks bs) ≡ false
blank-tab [] = refl
blank-tab (b ∷ bs) = elim (cases_Bool (is_blank b)) [
  | inl is ↦ ap (head_is 9) (blank-on b bs is) ∙ blank-tab bs
  | inr is ↦ ap (head_is 9) (blank-off b bs is) ∙ ne_eqb 9 b (λ e. both_ways (is_blank b) is (sym (ap is_blank e)))
]

pub clear-written : (b : ℕ) (bs : List ℕ) → head_is 9 bs ≡ false → (written b bs).codes ≡ [] → IsClear b bs
clear-written b bs head codes =
    cond_both (only_comment b bs) _ _ (λ (x : Written). x.codes ≡ [] → IsClear b bs) (λ is _. clear-only b bs is head)
    (λ _ f.
    let front : List ℕ = take (blanks bs) bs in
    subst (IsClear b) (sym (blanks-parted bs))
    (clear-behind b front (drop_blanks bs) (first-tab b front (head-take (blanks bs) bs head) (blanks-tab front (blanks-are bs))) (clear-at (last_of b front) (drop_blanks bs) (blank-tab bs) f))) codes

-- ---- heads

-- what follows a colon that ends a key
key-space : (prior : ℕ) (bs rest : List ℕ) → drop (key_len prior bs) bs ≡ 58 ∷ rest → space_next rest ≡ true
key-space prior [] rest e = absurd cc
key-space prior (b ∷ bs) rest e =
    cond_both (((b == 35) && (prior == 32)) || ((b == 58) && space_next bs)) _ _ (λ (n : ℕ). drop n (b ∷ bs) ≡ 58 ∷ rest → space_next rest ≡ true)
    (λ is f.
    let all : b ∷ bs ≡ 58 ∷ rest = f in
    let first : b ≡ 58 = cc in
    let same : bs ≡ rest = cc in
    ap space_next (sym same) ∙ elim (or_cases ((b == 35) && (prior == 32)) ((b == 58) && space_next bs) is) [
      | inl hash ↦ absurd (omega (arith, first, eqb-true b 35 (and_parts (b == 35) (prior == 32) hash).0))
      | inr colon ↦ (and_parts (b == 58) (space_next bs) colon).1
    ])
    (λ _ f. key-space b bs rest (sym (λ i. drop (one-more (key_len b bs) i) (b ∷ bs)) ∙ f)) e

-- a value behind a key's colon, and what comes before it
clear-colon : (b : ℕ) (w front rest : List ℕ) → w ≡ front ++ 58 ∷ rest → has_tab_after (b ∷ front) ≡ false → space_next rest ≡ true → (written 58 rest).codes ≡ [] → IsClear b w
clear-colon b w front rest parts tab space codes =
    subst (IsClear b) (sym parts) (clear-behind b front (58 ∷ rest) tab (clear-one (last_of b front) 58 rest refl (clear-written 58 rest (space-head rest space) codes)))

clear-plain_key : (b : ℕ) (w : List ℕ) (k : Keyed) → head_is 9 w ≡ false → plain_key (split_colon w) ≡ Some k → k.codes ++ (written 58 k.rest).codes ≡ [] → IsClear b w
clear-plain_key b w k head is codes =
    let n : ℕ = key_len 0 w in
    let raw : List ℕ = take n w in
    cond_both (head_is 58 (drop n w)) _ _ (λ (o : Option Split). plain_key o ≡ Some k → IsClear b w)
    (λ colon f.
    let rest : List ℕ = tail_of (drop n w) in
    let j : Keyed = record { name = trim_end raw; rest = rest; codes = when (has_tab_after raw) Y9 } in
    let found : Some j ≡ Some k = f in
    let same : j ≡ k = cc in
    let at = codes-no j.codes (written 58 rest).codes ((λ i. (same i).codes ++ (written 58 (same i).rest).codes) ∙ codes) in
    let parts : drop n w ≡ 58 ∷ rest = head-tail 58 (drop n w) colon in
    clear-colon b w raw rest (sym (take-append-drop n w) ∙ λ i. raw ++ parts i) (first-tab b raw (head-take n w head) (when-none (has_tab_after raw) Y9 at.0)) (key-space 0 w rest parts) at.1)
    (λ _ f. absurd cc) is

clear-quoted_key : (b : ℕ) (w : List ℕ) (o : Option Quoted) (k : Keyed) → scalar.quoted w ≡ o → quoted_key o ≡ Some k → k.codes ++ (written 58 k.rest).codes ≡ [] → IsClear b w
clear-quoted_key b w None k is key codes = absurd cc
clear-quoted_key b w (Some q) k is key codes =
    let from : List ℕ = drop_blanks q.rest in
    let front : List ℕ = take (blanks q.rest) q.rest in
    cond_both (not q.wrong && is_colon from) _ _ (λ o. o ≡ Some k → IsClear b w)
    (λ holds f.
    let at = and_parts (head_is 58 from) (space_next (tail_of from)) (and_parts (not q.wrong) (is_colon from) holds).1 in
    let same : record { name = q.text; rest = tail_of from; codes = [] } ≡ k = cc in
    clear-scalar b w q is
    (clear-colon 39 q.rest front (tail_of from) (blanks-parted q.rest ∙ λ i. front ++ head-tail 58 from at.0 i) (other-tab 39 front refl (blanks-tab front (blanks-are q.rest))) at.1
    ((λ i. (same i).codes ++ (written 58 (same i).rest).codes) ∙ codes)))
    (λ _ f. absurd cc) key

clear-keyed : (b : ℕ) (w : List ℕ) (k : Keyed) → head_is 9 w ≡ false → keyed w ≡ Some k → k.codes ++ (written 58 k.rest).codes ≡ [] → IsClear b w
clear-keyed b w k head is codes =
    let P : Option Keyed → Type 0 = λ o. o ≡ Some k → IsClear b w in
    cond_both (is_quote w) _ _ P (λ _ f. clear-quoted_key b w (scalar.quoted w) k refl f codes)
    (λ _. cond_both (is_forbidden w) _ _ P (λ _ f. absurd cc) (λ _ f. clear-plain_key b w k head f codes)) is

clear-keyed_or_bare : (b c : ℕ) (w : List ℕ) (o : Option Keyed) → keyed w ≡ o → head_is 9 w ≡ false → (keyed_or_bare c w o).codes ≡ [] → IsClear b w
clear-keyed_or_bare b c w None is head codes = clear-at b w head (codes-no (header_code (written_at w).header) (written_at w).codes codes).1
clear-keyed_or_bare b c w (Some k) is head codes = clear-keyed b w k head is codes

-- ---- dashes

spaces-tab : (b : ℕ) (bs : List ℕ) → has_tab_after (b ∷ take (spaces bs) bs) ≡ false
spaces-tab b bs = first-tab b (take (spaces bs) bs) (none bs).0 (none bs).1
  where
    none : (xs : List ℕ) → (head_is 9 (take (spaces xs) xs) ≡ false) × (has_tab_after (take (spaces xs) xs) ≡ false)
    none [] = (refl, refl)
    none (x ∷ xs) =
        cond_both (x == 32) _ _ (λ (n : ℕ). (head_is 9 (take n (x ∷ xs)) ≡ false) × (has_tab_after (take n (x ∷ xs)) ≡ false))
        (λ is.
        let all : take (1 + spaces xs) (x ∷ xs) ≡ 32 ∷ take (spaces xs) xs = (λ i. take (one-more (spaces xs) i) (x ∷ xs)) ∙ λ i. eqb-true x 32 is i ∷ take (spaces xs) xs in
        (ap (head_is 9) all, ap has_tab_after all ∙ other-tab 32 (take (spaces xs) xs) refl (none xs).1))
        (λ _. (refl, refl))

-- what the text behind a dash makes
clear-item : (b c : ℕ) (r : List ℕ) (go : ℕ → List ℕ → ParsedLine) → space_next r ≡ true
    → ((d a : ℕ) → head_is 9 (drop (spaces r) r) ≡ false → (go d (drop (spaces r) r)).codes ≡ [] → IsClear a (drop (spaces r) r))
    → (dashed c (item r) go).codes ≡ [] → IsClear b (45 ∷ r)
clear-item b c r go space further codes =
    let P : Item → Type 0 = λ i. (dashed c i go).codes ≡ [] → IsClear 45 r in
    let front : List ℕ = take (spaces r) r in
    let more : List ℕ = drop (spaces r) r in
    clear-one b 45 r refl
    (cond_both (only_comment 45 r) _ _ P (λ is _. clear-only 45 r is (space-head r space))
    (λ _. cond_both (head_is 9 more) _ _ P (λ _ f. let bad : Y2 ∷ [] ≡ [] = f in absurd cc)
    (λ head. cond_both (is_dash more || is_some (keyed more)) _ _ P
    (λ _ f. subst (IsClear 45) (take-append-drop (spaces r) r) (clear-behind 45 front more (spaces-tab 45 r) (further (c + (1 + spaces r)) (last_of 45 front) head f)))
    (λ _ f. clear-written 45 r (space-head r space) f))) codes)

clear-entries : (n b c : ℕ) (w : List ℕ) → length w < n → head_is 9 w ≡ false → (parse_entries n c w).codes ≡ [] → IsClear b w
clear-entries zero b c w lt head codes = absurd (omega arith)
clear-entries (suc n) b c w lt head codes =
    cond_both (is_dash w) _ _ (λ (s : ParsedLine). s.codes ≡ [] → IsClear b w)
    (λ dash f.
    let at = and_parts (head_is 45 w) (space_next (tail_of w)) dash in
    let r : List ℕ = tail_of w in
    let first : w ≡ 45 ∷ r = head-tail 45 w at.0 in
    let size : length w ≡ suc (length r) = ap length first in
    subst (IsClear b) (sym first)
    (clear-item b c r (λ d t. parse_entries n d t) at.1 (λ d a h g. clear-entries n a d (drop (spaces r) r) (omega (arith, length-drop (spaces r) r)) h g) f))
    (λ _ f. clear-keyed_or_bare b c w (keyed w) refl head f) codes

clear-content : (b c : ℕ) (w : List ℕ) → (parse_content c w).codes ≡ [] → IsClear b w
clear-content b c w codes =
    cond_both (head_is 9 w) _ _ (λ (s : ParsedLine). s.codes ≡ [] → IsClear b w) (λ _ f. let bad : Y2 ∷ [] ≡ [] = f in absurd cc)
    (λ head f. clear-entries (suc (length w)) b c w (omega arith) head (when-no ((c == 0) && is_document_mark w) Y9 (parse_entries (suc (length w)) c w).codes f).1) codes

pub clear-line : (l : List ℕ) → is_skipped l ≡ false → (parse_line l).codes ≡ [] → IsClear 32 (trim_end (drop (spaces l) l))
clear-line l content codes =
    let w : List ℕ = trim_end (drop (spaces l) l) in
    let all : ParsedLine = cond (is_skipped l) (record { entries = []; header = None; codes = [] }) (parse_content (spaces l) w) in
    let mine = when-no (has_control l || has_byte_order_mark l) Y9 all.codes codes in
    clear-content 32 (spaces l) w (ap (λ (s : ParsedLine). s.codes) (sym (cond-false (is_skipped l) _ _ content)) ∙ mine.1)
