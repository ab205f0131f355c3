-- Lines that say entries with a tree are read.
use Rattle.std.proofs.Common.{◌≡◌, ℕ, Bool, true, false, cond, List, [], ◌∷◌, ◌++◌, Option, Some, None, Result, Ok, Err, refl, sym, ◌∙◌, ap, subst, append_assoc}
use Rattle.std.proofs.lemmas.List.{append-nil}
use Rattle.ci_yaml.specs.Prelude.{Code, Kind, sequence, mapping, Value, text, Head, dash, key, bare, Entry, level_of, parse_line, Line, ◌>>=◌, State, start, whole, inside, settle}
use Rattle.ci_yaml.specs.Prelude.{value_of, misplaced, joined, member_next, bare_next, next_by, next, run, literal, AreBlock, EndsBlock, Ending, outside, within, ending_of}
use Rattle.ci_yaml.specs.Prelude.{IsOutside, filled, entries_with, last_column, Parses, none, Reader, with_text, ending_at, content, line_by, line_next, read_lines, StartsOutside}
use Rattle.ci_yaml_lines.specs.Prelude.{Chomp}
use Rattle.ci_yaml.specs.Reading.{Frame}
use Rattle.ci_yaml.specs.Document.{line, block}
use Rattle.ci_yaml.proofs.Sound.{bind_ok, run-append}
use Rattle.ci_yaml.proofs.Headers.{NotEmpty, header-fits}

abbrev pub mapped : List ℕ → Result State Code → Result State Code
mapped u (Ok s) = Ok (with_text u s)
mapped u (Err c) = Err c

abbrev pub texted : Entry → List ℕ → Entry
texted e t = record e { given = Some (text t) }

mapped-cond : (u : List ℕ) (b : Bool) (x y : Result State Code) → mapped u (cond b x y) ≡ cond b (mapped u x) (mapped u y)
mapped-cond u true x y = refl
mapped-cond u false x y = refl

joined-text : (m : Code) (fs : List Frame) (v : Value) (kind : Kind) (name : List ℕ) (e : Entry) (t u : List ℕ) → joined m fs v kind name (texted e u) ≡ mapped u (joined m fs v kind name (texted e t))
joined-text m [] v kind name e t u = refl
joined-text m (f ∷ fs) v kind name e t u = simp mapped-cond

member-text : (s : State) (kind : Kind) (name : List ℕ) (e : Entry) (t u : List ℕ) → member_next s (texted e u) kind name ≡ mapped u (member_next s (texted e t) kind name)
member-text start kind name e t u = simp mapped-cond
member-text (whole v) kind name e t u = refl
member-text (inside fs given) kind name e t u =
    let w = settle (level_of kind e.column) fs (value_of given) in
    rw (joined-text (misplaced e.column fs) w.frames w.value kind name e t u) (simp mapped-cond)

bare-text : (s : State) (e : Entry) (t u : List ℕ) → bare_next s (texted e u) ≡ mapped u (bare_next s (texted e t))
bare-text start e t u = simp mapped-cond
bare-text s e t u = refl

next-by-text : (hd : Head) (s : State) (e : Entry) (t u : List ℕ) → next_by hd s (texted e u) ≡ mapped u (next_by hd s (texted e t))
next-by-text dash s e t u = member-text s sequence [] e t u
next-by-text (key k) s e t u = member-text s mapping k e t u
next-by-text bare s e t u = bare-text s e t u

run-one : (u : List ℕ) (x y : Result State Code) → y ≡ mapped u x → (y >>= λ s. run s []) ≡ mapped u (x >>= λ s. run s [])
run-one u (Ok s) y e = ap (λ (r : Result State Code). r >>= λ s. run s []) e
run-one u (Err c) y e = ap (λ (r : Result State Code). r >>= λ s. run s []) e

run-two : (u : List ℕ) (x : Result State Code) (a b : List Entry) → ((s : State) → run s b ≡ mapped u (run s a)) → (x >>= λ s. run s b) ≡ mapped u (x >>= λ s. run s a)
run-two u (Ok s) a b h = h s
run-two u (Err c) a b h = refl

-- another text for the last entry's value
pub run-filled : (s : State) (es : List Entry) (t u : List ℕ) → NotEmpty es → run s (filled es u) ≡ mapped u (run s (filled es t))
run-filled s [] t u h = absurd h
run-filled s (e ∷ []) t u h = run-one u (next s (texted e t)) (next s (texted e u)) (next-by-text e.head s e t u)
run-filled s (e ∷ f ∷ es) t u h = run-two u (next s e) (filled (f ∷ es) t) (filled (f ∷ es) u) (λ s'. run-filled s' (f ∷ es) t u tt)

twice : (t u : List ℕ) (s : State) → with_text u (with_text t s) ≡ with_text u s
twice t u start = refl
twice t u s = refl

-- the lines of a block
pub block-read : (st : State) (how : Chomp) (c : ℕ) (so_far ls rest : List Line) → AreBlock c so_far ls
    → read_lines (record { state = with_text (literal how so_far) st; end = within how c so_far }) (ls ++ rest)
    ≡ read_lines (record { state = with_text (literal how (so_far ++ ls)) st; end = within how c (so_far ++ ls) }) rest
block-read st how c so_far [] rest are = rw (append-nil so_far) refl
block-read st how c so_far (l ∷ ls) rest are =
    let t : List ℕ = literal how so_far in
    let u : List ℕ = literal how (so_far ++ l ∷ []) in
    let old : State = with_text t st in
    let one : line_next (record { state = old; end = within how c so_far }) l ≡ Ok (record { state = with_text u st; end = within how c (so_far ++ l ∷ []) }) =
    rw (are.0, are.1, twice t u st) refl in
    ap (λ (x : Result Reader Code). x >>= λ s. read_lines s (ls ++ rest)) one ∙ block-read st how c (so_far ++ l ∷ []) ls rest are.2
    ∙ ap (λ (x : List Line). read_lines (record { state = with_text (literal how x) st; end = within how c x }) rest) (append_assoc so_far (l ∷ []) ls)

-- the ending after lines, at least one of which came
abbrev pub end_after : Ending → List Line → Ending → Ending
end_after old [] new = old
end_after old (l ∷ ls) new = new

pub outside-next : (end : Ending) (s : State) (l : Line) → IsOutside end l → line_by end s l ≡ content s (parse_line l)
outside-next outside s l out = refl
outside-next (within how c so_far) s l out = rw out refl

content-read : (r : Reader) (l : Line) (h : Option Chomp) (t : State) → IsOutside r.end l → (parse_line l).codes ≡ [] → (parse_line l).header ≡ h
    → run r.state (entries_with h (parse_line l).entries []) ≡ Ok t → line_next r l ≡ Ok (record { state = t; end = ending_at h (last_column (parse_line l).entries) })
content-read r l h t out clean is ran = outside-next r.end r.state l out ∙ rw (is, ran, clean) refl

-- a run of entries in two parts
run-parts : (st : State) (a b : List Entry) (s : State) → run st (a ++ b) ≡ Ok s → (t : State) × (run st a ≡ Ok t) × (run t b ≡ Ok s)
run-parts st a b s e = bind_ok (run st a) (λ t. run t b) s (sym (run-append st a b) ∙ e)

from-mapped : (u : List ℕ) (x : Result State Code) (s : State) → mapped u x ≡ Ok s → (t : State) × (x ≡ Ok t) × (with_text u t ≡ s)
from-mapped u (Ok t) s e = (t, refl, cc)
from-mapped u (Err c) s e = absurd cc

pub starts-from : (how : Chomp) (c : ℕ) (so_far rest : List Line) → EndsBlock c rest → StartsOutside (within how c so_far) rest
starts-from how c so_far [] h = tt
starts-from how c so_far (l ∷ rest) h = h

pub starts-anywhere : (ls : List Line) → StartsOutside outside ls
starts-anywhere [] = tt
starts-anywhere (l ∷ ls) = tt

end-is : (rest lines : List Line) (how : Chomp) (c : ℕ) (end : Ending) → end_after (within how c lines) rest end ≡ ending_of rest how c lines end
end-is [] lines how c end = refl
end-is (l ∷ rest) lines how c end = refl

-- lines without one end outside
line-end-by : (ls : List Line) (es : List Entry) (end : Ending) → Parses ls es end → end_after outside ls end ≡ end
line-end-by ls es end none = refl
line-end-by ls es end parses = refl

same-mapped : (t : List ℕ) (x : Result State Code) (s : State) → x ≡ mapped t x → x ≡ Ok s → s ≡ with_text t s
same-mapped t (Ok u) s e is = let same : u ≡ s = cc in let e' : u ≡ with_text t u = cc in subst (λ (v : State). v ≡ with_text t v) same e'
same-mapped t (Err c) s e is = absurd cc

-- before its block a header's entry holds the text of no lines
pub header-holds : (st : State) (l : Line) (how : Chomp) (s : State) → (parse_line l).header ≡ Some how → run st (filled (parse_line l).entries (literal how [])) ≡ Ok s
    → s ≡ with_text (literal how []) s
header-holds st l how s is ran =
    let t : List ℕ = literal how [] in
    same-mapped t (run st (filled (parse_line l).entries t)) s (run-filled st (parse_line l).entries t t (header-fits l how is)) ran

-- Lines whose entries can be read are read.
pub parses-read : (ls : List Line) (es : List Entry) (end : Ending) (r : Reader) (s : State) → Parses ls es end → StartsOutside r.end ls → run r.state es ≡ Ok s
    → read_lines r ls ≡ Ok (record { state = s; end = end_after r.end ls end })
parses-read ls es end r s none out ran = let same : r.state ≡ s = cc in ap (λ (x : State). Ok (record { state = x; end = r.end })) same
parses-read ls es end r s (line l rest es' all end' clean no_header parses all-is) out ran =
    let p = run-parts r.state (parse_line l).entries es' s (ap (run r.state) (sym all-is) ∙ ran) in
    let one = content-read r l None p.0 out clean no_header p.1 in
    ap (λ (x : Result Reader Code). x >>= λ t. read_lines t rest) one ∙ parses-read rest es' end' (record { state = p.0; end = outside }) s parses (starts-anywhere rest) p.2
    ∙ ap (λ (x : Ending). Ok (record { state = s; end = x })) (line-end-by rest es' end' parses)
parses-read ls es end r s (block l lines rest below how es' all end' last clean header parts are ends parses all-is last-is) out ran =
    let heads : List Entry = (parse_line l).entries in
    let c : ℕ = last_column (parse_line l).entries in
    let t : List ℕ = literal how lines in
    let p = run-parts r.state (filled heads t) es' s (ap (run r.state) (sym all-is) ∙ ran) in
    let m = from-mapped t (run r.state (filled heads (literal how []))) p.0 (sym (run-filled r.state heads (literal how []) t (header-fits l how header)) ∙ p.1) in
    let one = content-read r l (Some how) m.0 out clean header m.1 in
    let same : m.0 ≡ with_text (literal how []) m.0 = header-holds r.state l how m.0 header m.1 in
    ap (λ (x : Result Reader Code). x >>= λ t. read_lines t below) one ∙ ap (read_lines (record { state = m.0; end = within how c [] })) parts
    ∙ ap (λ (x : State). read_lines (record { state = x; end = within how c [] }) (lines ++ rest)) same
    ∙ block-read m.0 how c [] lines rest are
    ∙ ap (λ (x : State). read_lines (record { state = x; end = within how c lines }) rest) m.2
    ∙ parses-read rest es' end' (record { state = p.0; end = within how c lines }) s parses (starts-from how c lines rest ends) p.2
    ∙ ap (λ (x : Ending). Ok (record { state = s; end = x })) (end-is rest lines how c end' ∙ sym last-is)
