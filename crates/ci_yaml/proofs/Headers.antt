-- Before its block a header's entry holds an empty text.
use Rattle.std.proofs.Common.{◌≡◌, ℕ, List, [], ◌∷◌, Option, Some, None, refl, sym, ◌∙◌, ap, subst}
use Rattle.std.specs.Prelude.{⊤}
use Rattle.ci_yaml.specs.Prelude.{Code, Value, text, Head, dash, key, bare, Entry, clip, Written, written_at, written, ParsedLine, entry_of, header_code, parse_line}
use Rattle.ci_yaml.specs.Prelude.{Line, literal, filled, entries_with}
use Rattle.ci_yaml_lines.specs.Prelude.{Chomp}
use Rattle.ci_yaml_lines.proofs.Forms.{OfForms, OfLines, written_at-each, written-each, line-each}

-- the value beside a header is an empty text
abbrev pub HasText : Option Chomp → Option Value → Type 0
HasText None given = ⊤
HasText (Some how) given = given ≡ Some (text [])

abbrev pub NotEmpty : List Entry → Type 0
NotEmpty [] = ⊥
NotEmpty (e ∷ es) = ⊤

-- beside a header are entries, of which the last has an empty text
abbrev LastHasText : Option Chomp → List Entry → Type 0
LastHasText None es = ⊤
LastHasText (Some how) es = NotEmpty es × (filled es [] ≡ es)

abbrev pub WrittenFits : Written → Type 0
WrittenFits w = HasText w.header w.given

abbrev ParsedFits : ParsedLine → Type 0
ParsedFits s = LastHasText s.header s.entries

pub forms-fit : OfForms WrittenFits
forms-fit = record { in_quotes = λ q. tt; unclosed = tt; in_list = λ w. tt; in_block = λ how last bs. refl; plain = λ raw. tt }

entry-by : (h : Option Chomp) (e : Entry) → HasText h e.given → LastHasText h (e ∷ [])
entry-by None e p = tt
entry-by (Some how) e p = (tt, ap (λ g. (record e { given = g }) ∷ []) (sym p))

entry-fits : (c : ℕ) (hd : Head) (w : Written) (cs : List Code) → WrittenFits w → ParsedFits (entry_of c hd w cs)
entry-fits c hd w cs p = entry-by w.header (record { column = c; head = hd; given = w.given }) p

cons-fits : (h : Option Chomp) (e : Entry) (es : List Entry) → LastHasText h es → LastHasText h (e ∷ es)
cons-fits None e es p = tt
cons-fits (Some how) e [] p = absurd p.0
cons-fits (Some how) e (f ∷ es) p = (tt, ap (λ (x : List Entry). e ∷ x) p.1)

lines-fit : OfLines ParsedFits
lines-fit = record {
  empty = λ cs. tt;
  bare_value = λ c w. entry-fits c bare (written_at w) (header_code (written_at w).header) (written_at-each WrittenFits forms-fit w);
  key_value = λ c k. entry-fits c (key k.name) (written 58 k.rest) k.codes (written-each WrittenFits forms-fit tt 58 k.rest);
  item_value = λ c bs. entry-fits c dash (written 45 bs) [] (written-each WrittenFits forms-fit tt 45 bs);
  no_value = λ c cs. tt;
  behind_dash = λ c s p. cons-fits s.header (record { column = c; head = dash; given = None }) s.entries p;
  more_codes = λ cs s p. p;
}

-- ---- with an empty block

nothing-in : (how : Chomp) → literal how [] ≡ []
nothing-in clip = refl
nothing-in how = refl

entries-by : (h : Option Chomp) (es : List Entry) → LastHasText h es → entries_with h es [] ≡ es
entries-by None es p = refl
entries-by (Some how) es p = ap (filled es) (nothing-in how) ∙ p.1

-- the empty block below a header changes nothing
pub entries-same : (l : Line) → entries_with (parse_line l).header (parse_line l).entries [] ≡ (parse_line l).entries
entries-same l = entries-by (parse_line l).header (parse_line l).entries (line-each ParsedFits lines-fit l)

-- a line with a header has an entry
pub header-fits : (l : Line) (how : Chomp) → (parse_line l).header ≡ Some how → NotEmpty (parse_line l).entries
header-fits l how is = (subst (λ h. LastHasText h (parse_line l).entries) is (line-each ParsedFits lines-fit l)).0
