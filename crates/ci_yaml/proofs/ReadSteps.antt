-- Lines that are read, one after the other, with their texts, and where they stop.
use Rattle.std.proofs.Common.{◌≡◌, ℕ, zero, suc, ◌+◌, ◌-◌, ◌≤◌, false, List, [], ◌∷◌, ◌++◌, map, length, take, drop, get_or, Option, Some, None, Result, Ok, Err, refl, sym, ◌∙◌}
use Rattle.std.proofs.Common.{ap, subst, append_assoc, length-append, arith}
use Rattle.std.proofs.lemmas.List.{take-append-drop, drop-drop, append-nil, length-take-le, length-drop, nil_from_length}
use Rattle.std.proofs.Math.Seq.{take-add}
use Rattle.ci_yaml.specs.Prelude.{Code, Entry, entry_view, LeastParsed, least_parsed, ParsedLine, parse_line, Line, ◌>>=◌, State, start, run, literal, AreBlock, EndsBlock, Ending}
use Rattle.ci_yaml.specs.Prelude.{outside, within, entries_with, last_column, Reader, with_text, ending_at, content_by, content, line_by, line_next, read_lines, beginning}
use Rattle.ci_yaml.specs.Prelude.{StopsBlock, entered_by, StopsAt, StartsOutside, HasRead, Text, Span, bytes_of, is_lent, spans_of, line_spans, IsBlockAt, Lines, Follow, Ends}
use Rattle.ci_yaml.specs.Prelude.{no_text, last_text, block_span, with_last, HaveSpans, GoOn}
use Rattle.ci_yaml_lines.specs.declared.entry.Entry as parts
use Rattle.ci_yaml_lines.specs.Prelude.{Chomp}
use Rattle.ci_yaml.specs.Stops.{entered}
use Rattle.ci_yaml.specs.Spans as lines
use Rattle.ci_yaml.specs.TextSpans as spans
use Rattle.ci_yaml.proofs.Headers.{entries-same}
use Rattle.ci_yaml.proofs.LinesSound.{content-said, read-append}
use Rattle.ci_yaml.proofs.LinesComplete.{starts-anywhere, starts-from, outside-next, block-read, header-holds}
use Rattle.ci_yaml.proofs.SpansLines.{lines-front, lines-append}
use Rattle.ci_yaml.proofs.TextSpans.{last-behind, header-some}
use Rattle.ci_yaml_lines.proofs.Lists.{last-parted, take-past}
use Rattle.ci_yaml_lines.proofs.Parsed.{entries-push}

-- ---- one line

column-push : (es : List Entry) (e : Entry) → last_column (es ++ e ∷ []) ≡ e.column
column-push [] e = refl
column-push (f ∷ []) e = refl
column-push (f ∷ g ∷ es) e = column-push (g ∷ es) e

pub column-last : (es : List parts.Entry) (e : parts.Entry) → 1 ≤ length es → e ≡ get_or es (length es - 1) e → e.column ≡ last_column (map entry_view es)
column-last es e le is =
    let front : List parts.Entry = take (length es - 1) es in
    let parted : es ≡ front ++ e ∷ [] = last-parted es e le ∙ ap (λ (x : parts.Entry). front ++ x ∷ []) (sym is) in
    sym (ap (λ (x : List parts.Entry). last_column (map entry_view x)) parted ∙ ap last_column (entries-push front e) ∙ column-push (map entry_view front) (entry_view e))

content-least : (r : Result State Code) (sp : ParsedLine) → content_by r sp ≡ entered_by r (least_parsed sp)
content-least (Ok s) sp = refl
content-least (Err c) sp = refl

pub content-is : (s : State) (l : Line) (sp : LeastParsed) → sp ≡ least_parsed (parse_line l) → entered s sp ≡ content s (parse_line l)
content-is s l sp e =
    ap (entered s) e ∙ sym (ap (λ (es : List Entry). content_by (run s es) (parse_line l)) (entries-same l) ∙ content-least (run s (parse_line l).entries) (parse_line l))

-- the header of a line behind which no block is open, or one
said-none : (h : Option Chomp) (c : ℕ) → outside ≡ ending_at h c → h ≡ None
said-none None c e = refl
said-none (Some how) c e = absurd cc

said-block : (h : Option Chomp) (c d : ℕ) (how : Chomp) → within how d [] ≡ ending_at h c → (h ≡ Some how) × (d ≡ c)
said-block None c d how e = absurd cc
said-block (Some g) c d how e = (cc, cc)

-- ---- the lines before and behind a place

next-line : (n : ℕ) (ls rest : List Line) (l : Line) → drop n ls ≡ l ∷ rest → (take (suc n) ls ≡ take n ls ++ l ∷ []) × (drop (suc n) ls ≡ rest) × (length (take n ls) ≡ n)
next-line zero [] rest l e = absurd cc
next-line zero (m ∷ ls) rest l e = let same : m ≡ l = cc in (ap (λ (x : Line). x ∷ []) same, cc, refl)
next-line (suc n) [] rest l e = absurd cc
next-line (suc n) (m ∷ ls) rest l e = let h = next-line n ls rest l e in (ap (λ (x : List Line). m ∷ x) h.0, h.1, ap suc h.2)

outside-line : (end : Ending) (st : State) (l : Line) (ls rest : List Line) → ls ≡ l ∷ rest → StartsOutside end ls → line_by end st l ≡ content st (parse_line l)
outside-line end st l ls rest e out = outside-next end st l (subst (StartsOutside end) e out)

-- The first lines are read, so many, to this state, and have these texts.
pub record Read (ls : List Line) (at : ℕ) (st : State) (ts : List Text) : Type 0 where
  pub read : HasRead ls at st
  pub texts : Lines ls 0 (take at ls) ts
  pub exact : GoOn ls at (spans_of ts)

-- The line behind them, and what reading it gives.
pub record ReadLine (ls : List Line) (at : ℕ) (l : Line) (rest : List Line) (st s : State) (end : Ending) (ts us : List Text) : Type 0 where
  pub before : Read ls at st ts
  pub parts : drop at ls ≡ l ∷ rest
  pub said : content st (parse_line l) ≡ Ok (record { state = s; end = end })
  pub follow : Follow (suc at) l ts us
  pub exact : spans_of us ≡ spans_of ts ++ line_spans (suc at) l

line-read : {ls rest : List Line} {at : ℕ} {l : Line} {st s : State} {end : Ending} {ts us : List Text} → ReadLine ls at l rest st s end ts us
    → read_lines beginning (take (suc at) ls) ≡ Ok (record { state = s; end = end })
line-read {ls} {rest} {at} {l} {st} h =
    let one : line_by h.before.read.end st l ≡ content st (parse_line l) = outside-line h.before.read.end st l (drop at ls) rest h.parts h.before.read.next in
    rw ((next-line at ls rest l h.parts).0, read-append beginning (take at ls) (l ∷ []), h.before.read.read)
    (ap (λ (x : Result Reader Code). x >>= λ t. read_lines t []) (one ∙ h.said))

line-texts : {ls rest : List Line} {at : ℕ} {l : Line} {st s : State} {end : Ending} {ts us : List Text} → ReadLine ls at l rest st s end ts us → Lines ls 0 (take (suc at) ls) us
line-texts {ls} {rest} {at} {l} {ts = ts} h =
    let n = next-line at ls rest l h.parts in
    let e : at ≡ 0 + length (take at ls) = omega (arith, n.2) in
    let one : Lines ls at (l ∷ []) h.follow.texts = lines.line at l [] h.follow.texts [] h.follow.texts h.follow.stand (lines.none (suc at) []) (sym (append-nil h.follow.texts)) in
    rw (n.0, h.follow.parts) (lines-append ls 0 (take at ls) (l ∷ []) ts h.follow.texts h.before.texts (subst (λ (m : ℕ). Lines ls m (l ∷ []) h.follow.texts) e one))

pub line-more : {ls rest : List Line} {at : ℕ} {l : Line} {st s : State} {ts us : List Text} → ReadLine ls at l rest st s outside ts us → Read ls (suc at) s us
line-more {ls} {rest} {at} {l} {st} {s} {ts} h =
    let own : List Span = line_spans (suc at) l in
    let header : (parse_line l).header ≡ None =
    said-none (parse_line l).header (last_column (parse_line l).entries) (content-said st l (record { state = s; end = outside }) h.said).end in
    record {
      read = record { end = outside; read = line-read h; next = starts-anywhere (drop (suc at) ls) };
      texts = line-texts h;
      exact = λ more behind.
          rw (h.exact, append_assoc (spans_of ts) own more)
          (h.before.exact (own ++ more) (rw h.parts (spans.line at l rest more (own ++ more) header
          (subst (λ (x : List Line). HaveSpans (suc at) x more) (next-line at ls rest l h.parts).1 behind) refl)));
    }

stop-here : (ls after : List Line) (n : ℕ) (l : Line) (r : Reader) (code : Code) → read_lines beginning (take n ls) ≡ Ok r → drop n ls ≡ l ∷ after → line_next r l ≡ Err code → StopsAt ls (suc n) code
stop-here ls after n l r code read e fault = record {
  before = take n ls;
  stop = l;
  after = after;
  reader = r;
  parts = sym (take-append-drop n ls) ∙ ap (λ (x : List Line). take n ls ++ x) e;
  number = ap suc (sym (next-line n ls after l e).2);
  read = read;
  fault = fault;
}

pub line-stops : (ls rest : List Line) (at : ℕ) (l : Line) (st : State) (code : Code) → HasRead ls at st → drop at ls ≡ l ∷ rest → content st (parse_line l) ≡ Err code → StopsAt ls (suc at) code
line-stops ls rest at l st code h e fault =
    stop-here ls rest at l (record { state = st; end = h.end }) code h.read e (outside-line h.end st l (drop at ls) rest e h.next ∙ fault)

-- ---- a block

-- a block below column c that begins behind so many lines, and its text
pub record IsText (c n : ℕ) (how : Chomp) (block rest : List Line) (t : Text) : Type 0 where
  pub are : AreBlock c [] block
  pub ends : EndsBlock c rest
  pub own : is_lent t.words ≡ false
  pub bytes : bytes_of t ≡ literal how block
  pub span : t.span ≡ block_span n block

abbrev Header : Line → Chomp → ℕ → Type 0
Header l how c = ((parse_line l).header ≡ Some how) × (c ≡ last_column (parse_line l).entries)

header-is : (st s : State) (l : Line) (how : Chomp) (c : ℕ) → content st (parse_line l) ≡ Ok (record { state = s; end = within how c [] })
    → Header l how c × (s ≡ with_text (literal how []) s)
header-is st s l how c e =
    let own : List Entry = (parse_line l).entries in
    let said = content-said st l (record { state = s; end = within how c [] }) e in
    let head = said-block (parse_line l).header (last_column own) c how said.end in
    (head, header-holds st l how s head.0 (ap (λ h. run st (entries_with h own [])) (sym head.0) ∙ said.ran))

behind : (ls rest : List Line) (at k : ℕ) (l : Line) → drop at ls ≡ l ∷ rest → (take (suc at + k) ls ≡ take (suc at) ls ++ take k rest) × (drop (suc at + k) ls ≡ drop k rest)
behind ls rest at k l e =
    let n = next-line at ls rest l e in
    (take-add (suc at) k ls ∙ ap (λ (x : List Line). take (suc at) ls ++ take k x) n.1, sym (drop-drop k (suc at) ls) ∙ ap (drop k) n.1)

-- the lines of a block that follow a line with a header
block-lines : {ls rest : List Line} {at : ℕ} {l : Line} {st s : State} {how : Chomp} {c : ℕ} {ts us : List Text} (k : ℕ) → ReadLine ls at l rest st s (within how c []) ts us
    → AreBlock c [] (take k rest) → read_lines beginning (take (suc at + k) ls) ≡ Ok (record { state = with_text (literal how (take k rest)) s; end = within how c (take k rest) })
block-lines {ls} {rest} {at} {l} {st} {s} {how} {c} k h are =
    let block : List Line = take k rest in
    rw ((behind ls rest at k l h.parts).0, read-append beginning (take (suc at) ls) block, line-read h)
    (ap (λ (x : State). read_lines (record { state = x; end = within how c [] }) block) (header-is st s l how c h.said).1
    ∙ ap (read_lines (record { state = with_text (literal how []) s; end = within how c [] })) (sym (append-nil block)) ∙ block-read s how c [] block [] are)

block-texts : (ls : List Line) (n k : ℕ) (block : List Line) (how : Chomp) (t : Text) (us vs : List Text) → length (take n ls) ≡ n → take (n + k) ls ≡ take n ls ++ block
    → IsBlockAt ls n how block → is_lent t.words ≡ false → bytes_of t ≡ literal how block → t.span ≡ block_span n block
    → Lines ls 0 (take n ls) us → Ends t us vs → Lines ls 0 (take (n + k) ls) vs
block-texts ls n k block how t us vs size front at own bytes span h (no_text is) = rw is (lines.none 0 (take (n + k) ls))
block-texts ls n k block how t us vs size front at own bytes span h (last_text before behind parts is) =
    let e : n ≡ 0 + length (take n ls) = omega (arith, size) in
    let one : Lines ls n block (t ∷ []) = lines.block n block block [] how t [] (sym (append-nil block)) at own bytes span (lines.none (n + length block) []) in
    rw (is, front) (lines-append ls 0 (take n ls) block before (t ∷ []) (lines-front ls 0 (take n ls) before behind (subst (Lines ls 0 (take n ls)) parts h))
    (subst (λ (m : ℕ). Lines ls m block (t ∷ [])) e one))

pub block-more : {ls rest : List Line} {at : ℕ} {l : Line} {st s : State} {how : Chomp} {c : ℕ} {ts us : List Text} (k : ℕ) (t : Text) (vs : List Text)
    → ReadLine ls at l rest st s (within how c []) ts us
    → k ≤ length rest → IsText c (suc at) how (take k rest) (drop k rest) t → Ends t us vs
    → ((words : List ℕ) → s ≡ with_text words s → spans_of vs ≡ with_last t.span (spans_of us))
    → Read ls (suc at + k) (with_text (bytes_of t) s) vs
block-more {ls} {rest} {at} {l} {st} {s} {how} {c} {ts} {us} k t vs h le b fills ending =
    let lines-of : List Line = take k rest in
    let n = next-line at ls rest l h.parts in
    let past = behind ls rest at k l h.parts in
    let head = header-is st s l how c h.said in
    let are : AreBlock (last_column (parse_line l).entries) [] lines-of = subst (λ (m : ℕ). AreBlock m [] lines-of) head.0.1 b.are in
    let ends : EndsBlock (last_column (parse_line l).entries) (drop k rest) = subst (λ (m : ℕ). EndsBlock m (drop k rest)) head.0.1 b.ends in
    let own : List Span = with_last (block_span (suc at) lines-of) (line_spans (suc at) l) in
    let ending-is : spans_of vs ≡ spans_of ts ++ own =
    ending (literal how []) head.1 ∙ rw (b.span, h.exact) (last-behind (block_span (suc at) lines-of) (spans_of ts) (line_spans (suc at) l)
    (header-some (suc at) l how head.0.0)) in
    record {
      read = record {
        end = within how c lines-of;
        read = rw b.bytes (block-lines k h b.are);
        next = subst (StartsOutside (within how c lines-of)) (sym past.1) (starts-from how c lines-of (drop k rest) b.ends);
      };
      texts = block-texts ls (suc at) k lines-of how t us vs (ap length n.0 ∙ length-append (take at ls) (l ∷ []) ∙ omega (arith, n.2)) past.0
          (record {
            before = take at ls;
            header = l;
            after = drop k rest;
            parts = sym (take-append-drop at ls) ∙ ap (λ (x : List Line). take at ls ++ x) (h.parts ∙ ap (λ (x : List Line). l ∷ x) (sym (take-append-drop k rest)));
            number = ap suc (sym n.2);
            header_is = head.0.0;
            are = are;
            ends = ends;
          }) b.own b.bytes b.span (line-texts h) fills;
      exact = λ more goes.
          rw (ending-is, append_assoc (spans_of ts) own more)
          (h.before.exact (own ++ more) (rw h.parts (spans.block at l lines-of (drop k rest) rest how more (own ++ more) head.0.0 (sym (take-append-drop k rest)) are ends
          (subst (λ (m : ℕ). HaveSpans (suc at + m) (drop k rest) more) (sym (length-take-le k rest le))
          (subst (λ (x : List Line). HaveSpans (suc at + k) x more) past.1 goes)) refl)));
    }

stops-by : (ls : List Line) (n c : ℕ) (how : Chomp) (block tail : List Line) (s : State) (code : Code)
    → read_lines beginning (take n ls) ≡ Ok (record { state = s; end = within how c block }) → drop n ls ≡ tail
    → StopsBlock c block tail code → StopsAt ls (suc n) code
stops-by ls n c how block [] s code read e stop = absurd stop
stops-by ls n c how block (l ∷ after) s code read e stop = stop-here ls after n l (record { state = s; end = within how c block }) code read e (rw (stop.0, stop.1) refl)

pub block-stops : {ls rest : List Line} {at : ℕ} {l : Line} {st s : State} {how : Chomp} {c : ℕ} {ts us : List Text} (k : ℕ) (code : Code)
    → ReadLine ls at l rest st s (within how c []) ts us
    → AreBlock c [] (take k rest) → StopsBlock c (take k rest) (drop k rest) code → StopsAt ls (suc (suc at + k)) code
block-stops {ls} {rest} {at} {l} {s = s} {how} {c} k code h are stop =
    stops-by ls (suc at + k) c how (take k rest) (drop k rest) (with_text (literal how (take k rest)) s) code (block-lines k h are) (behind ls rest at k l h.parts).1 stop

-- ---- before the first line, and behind the last

pub nothing-read : (ls : List Line) → HasRead ls 0 start
nothing-read ls = record { end = outside; read = refl; next = starts-anywhere ls }

pub all-read : (ls : List Line) (at : ℕ) (st : State) (ts : List Text) → length ls ≤ at → Read ls at st ts
    → ((r : Reader) × (read_lines beginning ls ≡ Ok r) × (r.state ≡ st)) × Lines ls 0 ls ts × HaveSpans 0 ls (spans_of ts)
all-read ls at st ts le h =
    let all : take at ls ≡ ls = take-past at ls le in
    let none : drop at ls ≡ [] = nil_from_length (drop at ls) (omega (arith, length-drop at ls)) in (
      (record { state = st; end = h.read.end }, ap (read_lines beginning) (sym all) ∙ h.read.read, refl),
      subst (λ (x : List Line). Lines ls 0 x ts) all h.texts,
      subst (HaveSpans 0 ls) (append-nil (spans_of ts)) (h.exact [] (rw none (spans.none at))),
    )
