-- The code that reading stops with at a line is the least of those that hold of it.
use Rattle.std.proofs.Common.{◌≡◌, ℕ, ◌≤◌, ◌⊎◌, inl, inr, Bool, true, false, cond, List, [], ◌∷◌, ◌++◌, Option, Some, None, Result, Ok, Err, refl, sym, ◌∙◌, ap, subst, arith}
use Rattle.std.proofs.Common.{nat_le, Contains}
use Rattle.std.specs.List.{All}
use Rattle.std.proofs.lemmas.Bool.{leb-true, leb-false}
use Rattle.std.proofs.lemmas.List.Elements.{All-nil, All-cons, All-contains, Contains-append_left, Contains-append_right, Contains-append_cases}
use Rattle.ci_yaml.specs.Prelude.{Code, bare, Entry, Written, ParsedLine, parse_line, Line, State, run, lesser, least, least_of, is_in_block, block_codes, literal, AreBlock}
use Rattle.ci_yaml.specs.Prelude.{EndsBlock, Ending, outside, within, IsOutside, last_column, Parses, none, place_codes, Holds, of_block, of_place, IsLeast, Reader, with_text}
use Rattle.ci_yaml.specs.Prelude.{stop_or, content_by, content, line_by, line_next}
use Rattle.ci_yaml_lines.specs.Least.{number_of}
use Rattle.ci_yaml.specs.Document.{line, block, of_line}
use Rattle.ci_yaml.proofs.Sound.{StateStands, some_is}
use Rattle.ci_yaml_lines.proofs.Leasts.{least_append}
use Rattle.ci_yaml.proofs.LinesSound.{LinesStand}
use Rattle.ci_yaml.proofs.Headers.{entries-same}
use Rattle.ci_yaml.proofs.PlaceCodes.{fault_of, HasGiven, run-code}
use Rattle.ci_yaml_lines.proofs.Forms.{OfForms, OfEntries, written_at-each, entry-each}

-- ---- what lines say is one thing

pub front-same : (c : ℕ) (before a b rest more : List Line) → AreBlock c before a → AreBlock c before b → EndsBlock c rest → EndsBlock c more → a ++ rest ≡ b ++ more → (a ≡ b) × (rest ≡ more)
front-same c before [] [] rest more p q e f is = (refl, is)
front-same c before [] (l ∷ b) rest more p q e f is = let no : is_in_block c l ≡ false = subst (EndsBlock c) is e in let yes : is_in_block c l ≡ true = q.0 in absurd cc
front-same c before (l ∷ a) [] rest more p q e f is = let no : is_in_block c l ≡ false = subst (EndsBlock c) (sym is) f in let yes : is_in_block c l ≡ true = p.0 in absurd cc
front-same c before (l ∷ a) (m ∷ b) rest more p q e f is =
    let heads : l ≡ m = cc in
    let tails : a ++ rest ≡ b ++ more = cc in
    let r = front-same c (before ++ l ∷ []) a b rest more p.2 (subst (λ (x : Line). AreBlock c (before ++ x ∷ []) b) (sym heads) q.2) e f tails in
    (ap (λ (x : Line). x ∷ a) heads ∙ ap (λ (x : List Line). m ∷ x) r.0, r.1)

pub parses-same : (ls : List Line) (es fs : List Entry) (d e : Ending) → Parses ls es d → Parses ls fs e → (es ≡ fs) × (d ≡ e)
parses-same ls es fs d e none none = (refl, refl)
parses-same ls es fs d e (line l rest more all end clean no_header parses is) (line l2 rest2 more2 all2 end2 clean2 no_header2 parses2 is2) =
    let r = parses-same rest more more2 end end2 parses parses2 in
    (rw (is, r.0) (sym is2), r.1)
parses-same ls es fs d e (line _ _ _ _ _ _ no_header _ _) (block _ _ _ _ how _ _ _ _ _ header _ _ _ _ _ _) = let no : Some how ≡ None = sym header ∙ no_header in absurd cc
parses-same ls es fs d e (block _ _ _ _ how _ _ _ _ _ header _ _ _ _ _ _) (line _ _ _ _ _ _ no_header _ _) = let no : Some how ≡ None = sym header ∙ no_header in absurd cc
parses-same ls es fs d e (block l lines rest _ how more _ end _ _ header parts are ends p i to) (block _ lines2 rest2 _ how2 more2 _ end2 _ _ header2 parts2 are2 ends2 p2 i2 to2) =
    let hows : how ≡ how2 = some_is how how2 (sym header ∙ header2) in
    let f = front-same (last_column (parse_line l).entries) [] lines lines2 rest rest2 are are2 ends ends2 (sym parts ∙ parts2) in
    let r = parses-same rest more more2 end end2 p (rw f.1 p2) in
    (rw (i, hows, f.0, r.0) (sym i2), rw (to, hows, f.0, f.1, r.1) (sym to2))

-- ---- the least of a list

lesser-is : (x z : Code) → ((lesser x (Some z) ≡ x) × (number_of x ≤ number_of z)) ⊎ ((lesser x (Some z) ≡ z) × (number_of z ≤ number_of x))
lesser-is x z = by (nat_le (number_of x) (number_of z)) refl
  where
    by : (b : Bool) → nat_le (number_of x) (number_of z) ≡ b → ((cond b x z ≡ x) × (number_of x ≤ number_of z)) ⊎ ((cond b x z ≡ z) × (number_of z ≤ number_of x))
    by true e = inl (refl, leb-true _ _ e)
    by false e = inr (refl, omega (arith, leb-false _ _ e))

abbrev AtLeast : Code → Code → Type 0
AtLeast c d = number_of c ≤ number_of d

least-is : (cs : List Code) (c : Code) → least cs ≡ Some c → Contains cs c × All (AtLeast c) cs
least-is [] c e = absurd cc
least-is (x ∷ []) c e = let same : x ≡ c = some_is x c e in ((0, omega arith, same), All-cons (AtLeast c) x [] (omega (arith, ap number_of same)) (All-nil (AtLeast c)))
least-is (x ∷ y ∷ cs) c e =
    let z : Code = lesser y (least cs) in
    let more = least-is (y ∷ cs) z refl in
    elim (lesser-is x z) [
      | inl p ↦
          let same : number_of x ≡ number_of c = ap number_of (sym p.0 ∙ some_is _ c e) in
          ((0, omega arith, sym p.0 ∙ some_is _ c e), All-cons (AtLeast c) x (y ∷ cs) (omega arith) (λ k d lt. omega (arith, more.1 k d lt)))
      | inr p ↦
          let same : number_of z ≡ number_of c = ap number_of (sym p.0 ∙ some_is _ c e) in (
            Contains-append_right (x ∷ []) (y ∷ cs) c (subst (Contains (y ∷ cs)) (sym p.0 ∙ some_is _ c e) more.0),
            All-cons (AtLeast c) x (y ∷ cs) (omega arith)
                (λ k d lt. omega (arith, more.1 k d lt)),
          )
    ]

-- ---- an entry without dash and key has a value

abbrev WrittenGiven : Written → Type 0
WrittenGiven w = HasGiven bare w.given

forms-given : OfForms WrittenGiven
forms-given = record { in_quotes = λ q. tt; unclosed = tt; in_list = λ w. tt; in_block = λ how last bs. tt; plain = λ raw. tt }

entries-given : OfEntries (λ e. HasGiven e.head e.given)
entries-given = record { bare_value = λ c w. written_at-each WrittenGiven forms-given w; key_value = λ c k. tt; item_value = λ c bs. tt; lone_dash = λ c. tt }

-- ---- the codes of a line

abbrev own_codes : List Entry → Line → List Code
own_codes es l = place_codes es (parse_line l).entries ++ (parse_line l).codes

-- the codes of a line after lines that say these entries and end there
abbrev codes_of : List Entry → Ending → Line → List Code
codes_of es outside l = own_codes es l
codes_of es (within how c so_far) l = cond (is_in_block c l) (block_codes so_far l) (own_codes es l)

codes-outside : (es : List Entry) (end : Ending) (l : Line) → IsOutside end l → codes_of es end l ≡ own_codes es l
codes-outside es outside l out = refl
codes-outside es (within how c so_far) l out = rw out refl

codes-held : (before : List Line) (es : List Entry) (end : Ending) (l : Line) (code : Code) → Parses before es end → Holds before l code → Contains (codes_of es end l) code
codes-held before es end l code parses (of_block fs how c lines parses' inside_it has) =
    let same = parses-same before es fs end (within how c lines) parses parses' in rw (same.1, inside_it) has
codes-held before es end l code parses (of_line fs end' parses' out has) =
    let same = parses-same before es fs end end' parses parses' in
    rw (same.0, same.1, codes-outside fs end' l out) (Contains-append_right (place_codes fs (parse_line l).entries) (parse_line l).codes code has)
codes-held before es end l code parses (of_place fs end' parses' out has) =
    let same = parses-same before es fs end end' parses parses' in
    rw (same.0, same.1, codes-outside fs end' l out) (Contains-append_left (place_codes fs (parse_line l).entries) (parse_line l).codes code has)

own-hold : (before : List Line) (es : List Entry) (end : Ending) (l : Line) (code : Code) → Parses before es end → IsOutside end l → Contains (own_codes es l) code
    → Holds before l code
own-hold before es end l code parses out has = elim (Contains-append_cases (place_codes es (parse_line l).entries) (parse_line l).codes code has) [
  | inl p ↦ of_place es end parses out p
  | inr p ↦ of_line es end parses out p
]

codes-hold : (before : List Line) (es : List Entry) (end : Ending) (l : Line) (code : Code) → Parses before es end → Contains (codes_of es end l) code → Holds before l code
codes-hold before es outside l code parses has = own-hold before es outside l code parses tt has
codes-hold before es (within how c so_far) l code parses has = by (is_in_block c l) refl has
  where
    by : (b : Bool) → is_in_block c l ≡ b → Contains (cond b (block_codes so_far l) (own_codes es l)) code → Holds before l code
    by true is has' = of_block es how c so_far parses is has'
    by false is has' = own-hold before es (within how c so_far) l code parses is has'

-- ---- reading a line

stop-code : (o : Option Code) (r : Reader) → fault_of (stop_or o r) ≡ o
stop-code None r = refl
stop-code (Some c) r = refl

content-by-code : (res : Result State Code) (sp : ParsedLine) → fault_of (content_by res sp) ≡ least_of (fault_of res) (least sp.codes)
content-by-code (Ok s) sp = stop-code (least sp.codes) _
content-by-code (Err c) sp = refl

content-code : (st : State) (es : List Entry) (l : Line) → StateStands st es → fault_of (content st (parse_line l)) ≡ least (own_codes es l)
content-code st es l h =
    let own : List Entry = (parse_line l).entries in
    ap (λ (x : List Entry). fault_of (content_by (run st x) (parse_line l))) (entries-same l)
    ∙ content-by-code (run st own) (parse_line l)
    ∙ ap (λ o. least_of o (least (parse_line l).codes)) (run-code st es own h (entry-each (λ e. HasGiven e.head e.given) entries-given l))
    ∙ sym (least_append (place_codes es own) (parse_line l).codes)

line-code : (st : State) (es : List Entry) (end : Ending) (l : Line) → StateStands st es → fault_of (line_by end st l) ≡ least (codes_of es end l)
line-code st es outside l h = content-code st es l h
line-code st es (within how c so_far) l h = by (is_in_block c l)
  where
    by : (b : Bool)
        → fault_of (cond b (stop_or (least (block_codes so_far l)) (record { state = with_text (literal how (so_far ++ l ∷ [])) st; end = within how c (so_far ++ l ∷ []) }))
        (content st (parse_line l))) ≡ least (cond b (block_codes so_far l) (own_codes es l))
    by true = stop-code (least (block_codes so_far l)) _
    by false = content-code st es l h

-- Reading a line stops with the least code that holds of it.
pub stop-least : (before : List Line) (l : Line) (r : Reader) (code : Code) → LinesStand r before → line_next r l ≡ Err code → IsLeast before l code
stop-least before l r code h e =
    let codes : List Code = codes_of h.entries r.end l in
    let is = least-is codes code (sym (line-code r.state h.entries r.end l h.stands) ∙ ap fault_of e) in
    record {
      holds = codes-hold before h.entries r.end l code h.parses is.0;
      least = λ other has. All-contains (AtLeast code) codes other is.1 (codes-held before h.entries r.end l other h.parses has);
    }
