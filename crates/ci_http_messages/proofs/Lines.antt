-- How many line feeds a head has, and what a head that is read as a whole says of others.
use Rattle.std.proofs.Common.{◌≡◌, ℕ, ◌+◌, ◌≤◌, List, [], ◌∷◌, ◌++◌, length, drop, refl, sym, ◌∙◌, ap, subst, arith, length-drop, count_by}
use Rattle.std.specs.List.{flat_map}
use Rattle.std.proofs.lemmas.List.{append-nil}
use Rattle.std.proofs.lemmas.List.Sums.{sum_by-append}
use Rattle.httparse.specs.Grammar.{LineEnd, crlf, lf, print_end, Field, print_field, RequestHead, ReadsRequest}
use Rattle.httparse.specs.Spans.{RequestOverflows}
use Rattle.httparse.proofs.GrammarLemmas.{print_request-append, request_unique}
use Rattle.ci_http_messages.specs.Prelude.{is_line_feed, MAX_HEAD_LINES}

abbrev feeds : List ℕ → ℕ
feeds l = count_by is_line_feed l

feeds-append : (a b : List ℕ) → feeds (a ++ b) ≡ feeds a + feeds b
feeds-append a b = sum_by-append _ a b

feeds_after : (a b : List ℕ) → feeds b ≤ feeds (a ++ b)
feeds_after a b = omega (arith, feeds-append a b)

feeds_end : (e : LineEnd) → feeds (print_end e) ≡ 1
feeds_end crlf = refl
feeds_end lf = refl

feeds_field : (f : Field) → 1 ≤ feeds (print_field f)
feeds_field f = omega (arith, feeds_end f.end, feeds_after (f.name ++ 58 ∷ f.raw) (print_end f.end))

feeds_fields : (fs : List Field) → length fs ≤ feeds (flat_map print_field fs)
feeds_fields [] = omega arith
feeds_fields (f ∷ fs) =
    let same : flat_map print_field (f ∷ fs) ≡ print_field f ++ flat_map print_field fs = refl in
    omega (arith, ap feeds same, feeds-append (print_field f) (flat_map print_field fs), feeds_field f, feeds_fields fs)

-- a head has a line feed for each field, one for its first line and one for its end
pub feeds_head : (buf : List ℕ) (h : RequestHead) (rest : List ℕ) → ReadsRequest buf h rest → length h.fields + 2 ≤ feeds buf
feeds_head buf h rest reads =
    let all = simp feeds-append at (ap feeds (reads.1 ∙ print_request-append h rest)) in
    omega (arith, all, feeds_end h.line_end, feeds_fields h.fields, feeds_end h.last)

-- a head that ends before the bytes do is the only one
pub not_whole : (buf : List ℕ) (h k : RequestHead) (n : ℕ) → ReadsRequest buf h (drop n buf) → n ≤ length buf → (n ≡ length buf → ⊥)
    → ReadsRequest buf k [] → ⊥
not_whole buf h k n reads fits short whole =
    let same = request_unique buf h k (drop n buf) [] reads whole in
    short (omega (arith, ap length same.1, length-drop n buf))

-- there is room for the fields of each head with so few lines
pub no_head : (buf : List ℕ) (k : RequestHead) → feeds buf ≤ MAX_HEAD_LINES → RequestOverflows 32 buf → ReadsRequest buf k [] → ⊥
no_head buf k few over whole =
    let h = over [] k [] (subst (λ l. ReadsRequest l k []) (sym (append-nil buf)) whole) in
    absurd (omega (arith, feeds_head buf k [] whole))
