-- What the code holds of lines and open nodes, without where it lies in memory.
use Rattle.std.specs.Prelude.{◌≤◌, ◌||◌, ◌+◌, ℕ, Bool, List, [], ◌∷◌, ◌++◌, length, Option, Some, None, map, option_map, ⊤, if◌then◌else◌}
use denote.Bor.{Bor}
use Rattle.ci_yaml_lines.specs.declared.tree.Tree.{Tree}
pub use Rattle.ci_yaml_lines.specs.TreeView.{words_of, bytes_of, items_of, pairs_of, joined, view_step, value_view, items_view, pairs_view}
use Rattle.ci_yaml_lines.specs.Tree.{sequence, Value, node, Members}
use Rattle.ci_yaml_lines.specs.Scalar as scalar
use Rattle.ci_yaml_lines.specs.Line as line
use Rattle.ci_yaml_lines.specs.Least.{least, least_of}
use Rattle.ci_yaml_lines.specs.declared.entry.Chomp.{Chomp}
use Rattle.ci_yaml_lines.specs.declared.entry.Chomp.TheVariants.{Clip, Strip, Keep}
use Rattle.ci_yaml_lines.specs.declared.entry.ParsedLine.{ParsedLine}
use Rattle.ci_yaml_lines.specs.declared.quoted.Quoted.{Quoted}
use Rattle.ci_yaml_lines.specs.declared.quoted.QuotedWords.{QuotedWords}
use Rattle.ci_yaml_lines.specs.declared.flow.End.{End}
use Rattle.ci_yaml_lines.specs.declared.flow.End.TheVariants.{Comma, Bracket, Missing}
use Rattle.ci_yaml_lines.specs.declared.flow.Cut.{Cut}
use Rattle.ci_yaml_lines.specs.declared.flow.Place.{Place}
use Rattle.ci_yaml_lines.specs.declared.flow.Listed.{Listed}
use Rattle.ci_yaml_lines.specs.declared.written.Written.{Written}
use Rattle.ci_yaml_lines.specs.declared.line.Keyed.{Keyed}
use Rattle.ci_yaml_lines.specs.declared.line.Item.{Item}
use Rattle.ci_yaml_lines.specs.declared.line.Item.TheVariants.{Inner, Value as ItemValue}
use Rattle.ci_yaml_lines.specs.Entry as entry
use Rattle.ci_yaml_lines.specs.declared.code.Code.{Code}
use Rattle.ci_yaml_lines.specs.declared.entry.Head.{Head}
use Rattle.ci_yaml_lines.specs.declared.entry.Head.TheVariants.{Dash, Key, Bare}
use Rattle.ci_yaml_lines.specs.declared.entry.Entry.{Entry}

abbrev pub given_view : Option Tree → Option Value
given_view None = None
given_view (Some t) = Some (value_view t)

abbrev pub head_view : Head → entry.Head
head_view Dash = entry.dash
head_view (Key k) = entry.key (bytes_of k)
head_view Bare = entry.bare

abbrev pub entry_view : Entry → entry.Entry
entry_view e = record { column = e.column; head = head_view e.head; given = given_view e.given }

-- ---- what one line says; where the definition lists all codes that hold, the code has the least

abbrev pub quoted_view : Quoted → scalar.Quoted
quoted_view q = record { text = bytes_of q.text; wrong = q.wrong; rest = q.rest.now }

abbrev pub quoted_words_view : QuotedWords → scalar.Quoted
quoted_words_view q = record { text = words_of q.words; wrong = q.wrong; rest = q.rest.now }

abbrev pub with_wrong : Bool → Option scalar.Quoted → Option scalar.Quoted
with_wrong w None = None
with_wrong w (Some q) = Some (record { text = q.text; wrong = w || q.wrong; rest = q.rest })

-- how a scalar in single quotes goes on: with this text, a quote and what follows it, or it isn't closed
abbrev pub from_quote : Option (Bor (List ℕ) × Bor (List ℕ)) → Option scalar.Quoted
from_quote None = None
from_quote (Some p) = scalar.with_words p.0.now (scalar.single (39 ∷ p.1.now))

-- the same in double quotes, with a backslash or a quote
abbrev pub from_mark : Option (Bor (List ℕ) × Bool × Bor (List ℕ)) → Option scalar.Quoted
from_mark None = None
from_mark (Some p) = scalar.with_words p.0.now (scalar.double ((if p.1 then 92 else 34) ∷ p.2.now))

-- a scalar of these words with what was found at its end: whether a backslash stands wrongly in it, and what follows it
abbrev pub ended : List ℕ → Option (Bool × Bor (List ℕ)) → Option scalar.Quoted
ended ws None = None
ended ws (Some e) = Some (record { text = ws; wrong = e.0; rest = e.1.now })

abbrev pub end_view : End → line.End
end_view (Comma s) = line.comma s.now
end_view (Bracket s) = line.bracket s.now
end_view Missing = line.missing

abbrev pub cut_view : Cut → line.Cut
cut_view c = record { raw = c.raw.now; end = end_view c.end }

pub record LeastPlace : Type 0 where
  pub value : Value
  pub code : Option Code
  pub end : line.End

abbrev pub place_view : Place → LeastPlace
place_view p = record { value = value_view p.value; code = p.code; end = end_view p.end }

abbrev pub least_place : line.Place → LeastPlace
least_place p = record { value = p.value; code = least p.codes; end = p.end }

pub record LeastListed : Type 0 where
  pub members : Members
  pub rest : Option (List ℕ)
  pub code : Option Code

abbrev pub listed_view : Listed → LeastListed
listed_view l = record { members = items_view l.items.items; rest = option_map (λ s. s.now) l.rest; code = l.code }

abbrev pub least_listed : line.Listed → LeastListed
least_listed l = record { members = l.members; rest = l.rest; code = least l.codes }

-- the places so far, and those from here on
abbrev pub with_places : Members → Option Code → LeastListed → LeastListed
with_places ms code l = record { members = joined ms l.members; rest = l.rest; code = least_of code l.code }

abbrev pub chomp_view : Chomp → line.Chomp
chomp_view Clip = line.clip
chomp_view Strip = line.strip
chomp_view Keep = line.keep

pub record LeastWritten : Type 0 where
  pub given : Option Value
  pub header : Option line.Chomp
  pub code : Option Code

abbrev pub written_view : Written → LeastWritten
written_view w = record { given = given_view w.given; header = option_map chomp_view w.header; code = w.code }

abbrev pub least_written : line.Written → LeastWritten
least_written w = record { given = w.given; header = w.header; code = least w.codes }

abbrev pub written_of_list : LeastListed → LeastWritten
written_of_list l = record { given = Some (node sequence l.members); header = None; code = least_of l.code (least (line.rest_codes l.rest)) }

pub record LeastKeyed : Type 0 where
  pub name : List ℕ
  pub rest : List ℕ
  pub code : Option Code

abbrev pub keyed_view : Keyed → LeastKeyed
keyed_view k = record { name = bytes_of k.name; rest = k.rest.now; code = k.code }

abbrev pub least_keyed : line.Keyed → LeastKeyed
least_keyed k = record { name = k.name; rest = k.rest; code = least k.codes }

pub data LeastItem : Type 0 where
  inner : ℕ → List ℕ → LeastItem
  value : LeastWritten → LeastItem

abbrev pub item_view : Item → LeastItem
item_view (Inner n s) = inner n s.now
item_view (ItemValue w) = value (written_view w)

abbrev pub least_item : line.Item → LeastItem
least_item (line.inner n s) = inner n s
least_item (line.value w) = value (least_written w)

pub record LeastParsed : Type 0 where
  pub entries : List entry.Entry
  pub header : Option line.Chomp
  pub code : Option Code

abbrev pub parsed_view : ParsedLine → LeastParsed
parsed_view s = record { entries = map entry_view s.entries.items; header = option_map chomp_view s.header; code = s.code }

abbrev pub least_parsed : line.ParsedLine → LeastParsed
least_parsed s = record { entries = s.entries; header = s.header; code = least s.codes }

abbrev pub with_entries : List entry.Entry → LeastParsed → LeastParsed
with_entries es s = record { entries = es ++ s.entries; header = s.header; code = s.code }

abbrev pub least_entry : ℕ → entry.Head → LeastWritten → Option Code → LeastParsed
least_entry c hd w code = record { entries = (record { column = c; head = hd; given = w.given }) ∷ []; header = w.header; code = least_of code w.code }

abbrev pub key_parsed : ℕ → LeastKeyed → LeastParsed
key_parsed c k = least_entry c (entry.key k.name) (least_written (line.written 58 k.rest)) k.code

abbrev pub bare_parsed : ℕ → LeastWritten → LeastParsed
bare_parsed c v = least_entry c entry.bare v (least (line.header_code v.header))

-- the columns that an item goes on stand in what follows its dash
abbrev pub ColumnsFit : ℕ → LeastItem → Type 0
ColumnsFit n (inner k t) = k + length t ≤ 1 + n
ColumnsFit n (value w) = ⊤
