-- What is read of lines stands over entries that the lines say.
use Rattle.std.proofs.Common.{◌≡◌, ℕ, Bool, true, false, cond, List, [], ◌∷◌, ◌++◌, Option, Some, None, Result, Ok, Err, refl, sym, ◌∙◌, ap, subst, append_assoc}
use Rattle.std.proofs.lemmas.List.{append-nil}
use Rattle.ci_yaml.specs.Prelude.{Code, Value, text, Entry, parse_line, Line, ◌>>=◌, State, start, whole, inside, run, is_in_block, block_codes, literal, Ending, outside, within}
use Rattle.ci_yaml.specs.Prelude.{IsOutside, filled, entries_with, last_column, Parses, none, least, Reader, with_text, stop_or, ending_at, content_by, content, line_by, line_next}
use Rattle.ci_yaml.specs.Prelude.{read_lines, beginning}
use Rattle.ci_yaml_lines.specs.Prelude.{Chomp}
use Rattle.ci_yaml.specs.Reading.{Frame}
use Rattle.ci_yaml.specs.Document.{line, block}
use Rattle.ci_yaml.proofs.Sound.{Stands, StateStands, run-stands, bind_ok, bind-both}
use Rattle.ci_yaml_lines.proofs.Leasts.{no_least}
use Rattle.ci_yaml.proofs.Headers.{NotEmpty, header-fits}
use Rattle.ci_yaml.proofs.BlockLines.{are-push}

abbrev pub parsed_entries : Line → List Entry
parsed_entries l = entries_with (parse_line l).header (parse_line l).entries []

abbrev pub parsed_end : Line → Ending
parsed_end l = ending_at (parse_line l).header (last_column (parse_line l).entries)

-- one line alone
alone-by : (l : Line) (h : Option Chomp) → (parse_line l).header ≡ h → (parse_line l).codes ≡ []
    → Parses (l ∷ []) (entries_with h (parse_line l).entries []) (ending_at h (last_column (parse_line l).entries))
alone-by l None is clean = line l [] [] (parse_line l).entries outside clean is none (sym (append-nil (parse_line l).entries))
alone-by l (Some how) is clean =
    block l [] [] [] how [] (filled (parse_line l).entries (literal how [])) outside (within how (last_column (parse_line l).entries) []) clean is refl tt tt none
    (sym (append-nil (filled (parse_line l).entries (literal how [])))) refl

alone : (l : Line) → (parse_line l).codes ≡ [] → Parses (l ∷ []) (parsed_entries l) (parsed_end l)
alone l clean = alone-by l (parse_line l).header refl clean

-- one more line, outside the block that may be open
pub parses-line : (ls : List Line) (es : List Entry) (end : Ending) (l : Line) → Parses ls es end → IsOutside end l → (parse_line l).codes ≡ []
    → Parses (ls ++ l ∷ []) (es ++ parsed_entries l) (parsed_end l)
parses-line ls es end l none out clean = alone l clean
parses-line ls es end l (line m rest es' all end' clean' no_header parses all-is) out clean =
    line m (rest ++ l ∷ []) (es' ++ parsed_entries l) (all ++ parsed_entries l) (parsed_end l) clean' no_header
    (parses-line rest es' end' l parses out clean) (rw all-is (append_assoc (parse_line m).entries es' (parsed_entries l)))
parses-line ls es end l (block m lines [] below how es' all end' last clean' header parts are ends none all-is last-is) out clean =
    block m lines (l ∷ []) (below ++ l ∷ []) how (parsed_entries l) (all ++ parsed_entries l) (parsed_end l) (parsed_end l) clean' header
    (rw (parts, append-nil lines) refl) are (subst (λ (e : Ending). IsOutside e l) last-is out) (alone l clean)
    (rw (all-is, append-nil (filled (parse_line m).entries (literal how lines))) refl) refl
parses-line ls es end l (block m lines (r ∷ rest) below how es' all end' last clean' header parts are ends parses all-is last-is) out clean =
    block m lines (r ∷ (rest ++ l ∷ [])) (below ++ l ∷ []) how (es' ++ parsed_entries l) (all ++ parsed_entries l) (parsed_end l) (parsed_end l) clean' header
    (ap (λ (x : List Line). x ++ l ∷ []) parts ∙ append_assoc lines (r ∷ rest) (l ∷ [])) are ends
    (parses-line (r ∷ rest) es' end' l parses (subst (λ (e : Ending). IsOutside e l) last-is out) clean)
    (ap (λ (x : List Entry). x ++ parsed_entries l) all-is ∙ append_assoc (filled (parse_line m).entries (literal how lines)) es' (parsed_entries l))
    refl

-- ---- one more line of a block

filled-append : (a b : List Entry) (t : List ℕ) → NotEmpty b → filled (a ++ b) t ≡ a ++ filled b t
filled-append [] b t h = refl
filled-append (e ∷ []) [] t h = absurd h
filled-append (e ∷ []) (f ∷ b) t h = refl
filled-append (e ∷ g ∷ a) b t h = ap (λ (x : List Entry). e ∷ x) (filled-append (g ∷ a) b t h)

filled-not_empty : (es : List Entry) (t : List ℕ) → NotEmpty es → NotEmpty (filled es t)
filled-not_empty [] t h = h
filled-not_empty (e ∷ []) t h = tt
filled-not_empty (e ∷ f ∷ es) t h = tt

filled-twice : (es : List Entry) (t u : List ℕ) → filled (filled es t) u ≡ filled es u
filled-twice (e ∷ f ∷ g ∷ es) t u = ap (λ (x : List Entry). e ∷ x) (filled-twice (f ∷ g ∷ es) t u)
filled-twice es t u = refl

append-not_empty : (a b : List Entry) → NotEmpty b → NotEmpty (a ++ b)
append-not_empty [] b h = h
append-not_empty (e ∷ a) b h = tt

parses-in : (ls : List Line) (es : List Entry) (end : Ending) (how : Chomp) (c : ℕ) (so_far : List Line) (l : Line) → Parses ls es end → end ≡ within how c so_far
    → is_in_block c l ≡ true → block_codes so_far l ≡ []
    → NotEmpty es × Parses (ls ++ l ∷ []) (filled es (literal how (so_far ++ l ∷ []))) (within how c (so_far ++ l ∷ []))
parses-in ls es end how c so_far l none is inside_it clean = absurd cc
parses-in ls es end how c so_far l (line m rest es' all end' clean' no_header parses all-is) is inside_it clean =
    let more = parses-in rest es' end' how c so_far l parses is inside_it clean in (
      subst NotEmpty (sym all-is) (append-not_empty (parse_line m).entries es' more.0),
      line m (rest ++ l ∷ []) (filled es' (literal how (so_far ++ l ∷ []))) (filled all (literal how (so_far ++ l ∷ []))) (within how c (so_far ++ l ∷ [])) clean' no_header more.1
          (ap (λ (x : List Entry). filled x (literal how (so_far ++ l ∷ []))) all-is ∙ filled-append (parse_line m).entries es' (literal how (so_far ++ l ∷ [])) more.0),
    )
parses-in ls es end how c so_far l (block m lines [] below how' es' all end' last clean' header parts are ends none all-is last-is) is inside_it clean =
    let heads : List Entry = (parse_line m).entries in
    let col : ℕ = last_column heads in
    let same : within how c so_far ≡ within how' col lines = sym is ∙ last-is in
    let how-is : how ≡ how' = cc in
    let col-is : c ≡ col = cc in
    let lines-is : so_far ≡ lines = cc in
    let t : List ℕ = literal how' (lines ++ l ∷ []) in
    let alls : all ≡ filled heads (literal how' lines) = all-is ∙ append-nil (filled heads (literal how' lines)) in (
      rw alls (filled-not_empty heads (literal how' lines) (header-fits m how' header)),
      rw (how-is, col-is, lines-is) (block m (lines ++ l ∷ []) [] (below ++ l ∷ []) how' [] (filled all t) outside (within how' col (lines ++ l ∷ [])) clean' header
          (rw (parts, append-nil lines, append-nil (lines ++ l ∷ [])) refl)
          (are-push col [] lines l are (rw col-is at inside_it) (rw lines-is at clean)) tt none
          (rw (alls, append-nil (filled heads t)) (filled-twice heads (literal how' lines) t)) refl),
    )
parses-in ls es end how c so_far l (block m lines (r ∷ rest) below how' es' all end' last clean' header parts are ends parses all-is last-is) is inside_it clean =
    let more = parses-in (r ∷ rest) es' end' how c so_far l parses (sym last-is ∙ is) inside_it clean in (
      subst NotEmpty (sym all-is) (append-not_empty (filled (parse_line m).entries (literal how' lines)) es' more.0),
      block m lines (r ∷ (rest ++ l ∷ [])) (below ++ l ∷ []) how' (filled es' (literal how (so_far ++ l ∷ []))) (filled all (literal how (so_far ++ l ∷ []))) (within how c (so_far ++ l ∷ [])) (within how c (so_far ++ l ∷ [])) clean' header
          (ap (λ (x : List Line). x ++ l ∷ []) parts ∙ append_assoc lines (r ∷ rest) (l ∷ [])) are ends more.1
          (ap (λ (x : List Entry). filled x (literal how (so_far ++ l ∷ []))) all-is ∙ filled-append (filled (parse_line m).entries (literal how' lines)) es' (literal how (so_far ++ l ∷ [])) more.0)
          refl,
    )

-- ---- steps

stands-with_text : (fs : List Frame) (given : Option Value) (es : List Entry) (t : List ℕ) → Stands fs given es → Stands fs (Some (text t)) (filled es t)
stands-with_text [] given es t h = ap (λ (x : List Entry). filled x t) h
stands-with_text (f ∷ fs) given es t h =
    let e = h.2 in
    let new : Entry = record e { given = Some (text t) } in
    let parts : filled es t ≡ h.0 ++ (h.1 ++ new ∷ []) =
    ap (λ (x : List Entry). filled x t) h.3 ∙ filled-append h.0 (h.1 ++ e ∷ []) t (append-not_empty h.1 (e ∷ []) tt)
    ∙ ap (λ (x : List Entry). h.0 ++ x) (filled-append h.1 (e ∷ []) t tt) in
    (h.0, h.1, new, parts, h.4, h.5, record { head = h.6.head; column = h.6.column }, refl, tt, h.9, h.10, h.11)

state-with_text : (s : State) (es : List Entry) (t : List ℕ) → StateStands s es → StateStands (with_text t s) (filled es t)
state-with_text start es t h = ap (λ (x : List Entry). filled x t) h
state-with_text (whole v) es t h = (record h.0 { given = Some (text t) }, ap (λ (x : List Entry). filled x t) h.1, h.2, h.3, refl)
state-with_text (inside fs given) es t h = (h.0, stands-with_text fs given es t h.1)

pub record LinesStand (r : Reader) (ls : List Line) : Type 0 where
  pub entries : List Entry
  pub parses : Parses ls entries r.end
  pub stands : StateStands r.state entries

pub stop-ok : (o : Option Code) (r s : Reader) → stop_or o r ≡ Ok s → (o ≡ None) × (r ≡ s)
stop-ok None r s e = (refl, cc)
stop-ok (Some c) r s e = absurd cc

-- what reading a line outside blocks says of it
pub record Said (st : State) (l : Line) (r : Reader) : Type 0 where
  pub clean : (parse_line l).codes ≡ []
  pub ran : run st (parsed_entries l) ≡ Ok r.state
  pub end : r.end ≡ parsed_end l

pub content-said : (st : State) (l : Line) (r : Reader) → content st (parse_line l) ≡ Ok r → Said st l r
content-said st l r e = by (run st (parsed_entries l)) refl e
  where
    by : (res : Result State Code) → run st (parsed_entries l) ≡ res → content_by res (parse_line l) ≡ Ok r → Said st l r
    by (Ok t) ran e' =
        let p = stop-ok (least (parse_line l).codes) (record { state = t; end = parsed_end l }) r e' in
        record { clean = no_least (parse_line l).codes p.0; ran = ran ∙ ap (λ (x : Reader). Ok x.state) p.1; end = sym (ap (λ (x : Reader). x.end) p.1) }
    by (Err c) ran e' = absurd cc

content-stands : (l : Line) (ls : List Line) (r s : Reader) → content r.state (parse_line l) ≡ Ok s → LinesStand r ls → IsOutside r.end l → LinesStand s (ls ++ l ∷ [])
content-stands l ls r s e h out =
    let c = content-said r.state l s e in
    record {
      entries = h.entries ++ parsed_entries l;
      parses = rw c.end (parses-line ls h.entries r.end l h.parses out c.clean);
      stands = run-stands r.state h.entries (parsed_entries l) s.state c.ran h.stands;
    }

in-stands : (st : State) (how : Chomp) (c : ℕ) (so_far : List Line) (l : Line) (ls : List Line) (s : Reader) (b : Bool) → is_in_block c l ≡ b
    → cond b (stop_or (least (block_codes so_far l)) (record { state = with_text (literal how (so_far ++ l ∷ [])) st; end = within how c (so_far ++ l ∷ []) })) (content st (parse_line l)) ≡ Ok s
    → LinesStand (record { state = st; end = within how c so_far }) ls → LinesStand s (ls ++ l ∷ [])
in-stands st how c so_far l ls s true is e h =
    let t : List ℕ = literal how (so_far ++ l ∷ []) in
    let p = stop-ok (least (block_codes so_far l)) (record { state = with_text t st; end = within how c (so_far ++ l ∷ []) }) s e in
    let parses = parses-in ls h.entries (within how c so_far) how c so_far l h.parses refl is (no_least (block_codes so_far l) p.0) in
    subst (λ (x : Reader). LinesStand x (ls ++ l ∷ [])) p.1 (record { entries = filled h.entries t; parses = parses.1; stands = state-with_text st h.entries t h.stands })
in-stands st how c so_far l ls s false is e h = content-stands l ls (record { state = st; end = within how c so_far }) s e h is

line-stands-by : (end : Ending) (st : State) (l : Line) (ls : List Line) (s : Reader) → line_by end st l ≡ Ok s → LinesStand (record { state = st; end = end }) ls → LinesStand s (ls ++ l ∷ [])
line-stands-by outside st l ls s e h = content-stands l ls (record { state = st; end = outside }) s e h tt
line-stands-by (within how c so_far) st l ls s e h = in-stands st how c so_far l ls s (is_in_block c l) refl e h

pub read-append : (r : Reader) (a b : List Line) → read_lines r (a ++ b) ≡ (read_lines r a >>= λ t. read_lines t b)
read-append r [] b = refl
read-append r (l ∷ a) b = bind-both (line_next r l) (λ t. read_lines t a) (λ t. read_lines t (a ++ b)) (λ t. read_lines t b) (λ t. read-append t a b)

read-stands : (r : Reader) (before ls : List Line) (s : Reader) → read_lines r ls ≡ Ok s → LinesStand r before → LinesStand s (before ++ ls)
read-stands r before [] s e h = let same : r ≡ s = cc in rw (append-nil before) (subst (λ (x : Reader). LinesStand x before) same h)
read-stands r before (l ∷ ls) s e h =
    let b = bind_ok (line_next r l) (λ t. read_lines t ls) s e in
    subst (λ (x : List Line). LinesStand s x) (append_assoc before (l ∷ []) ls)
    (read-stands b.0 (before ++ l ∷ []) ls s b.2 (line-stands-by r.end r.state l before b.0 b.1 h))

-- What is read of lines stands over entries that the lines say.
pub lines-stand : (ls : List Line) (r : Reader) → read_lines beginning ls ≡ Ok r → LinesStand r ls
lines-stand ls r e = read-stands beginning [] ls r e (record { entries = []; parses = none; stands = refl })
