-- In the maps of a text's tree the keys differ, and it is at most ten deep.
use Rattle.std.proofs.Common.{◌≡◌, ℕ, zero, suc, pos, ◌+◌, ◌<◌, ◌≤◌, true, false, cond, List, [], ◌∷◌, ◌++◌, length, Option, Some, None, refl, sym, subst, arith, max, ◌||◌, codes}
use Rattle.std.specs.Prelude.{⊤}
use Rattle.std.specs.Str.{bytes_eq}
use Rattle.std.specs.Str.Lines.{lines}
use Rattle.ci_yaml.specs.Prelude.{Kind, Value, null, boolean, number, node, Members, no_members, member, HaveNoNames, Entry, IsWithin, HasValue, here, deeper, nothing, IsNode}
use Rattle.ci_yaml.specs.Prelude.{AreMembers, IsDocument, of_node, drop_blanks, trim_end, head_is, tail_of, Quoted, quoted, is_quote, count_of, negative_of, number_or_text}
use Rattle.ci_yaml.specs.Prelude.{plain_value, End, comma, cut_place, plain_place, quoted_place, place, Listed, after_place, places, listed, Written, parse_line, Line, literal}
use Rattle.ci_yaml.specs.Prelude.{Ending, filled, Parses, none, HasTree, KeysDiffer, AllKeysDiffer, depth, members_depth, MAX_DEPTH}
use Rattle.ci_yaml.specs.Node.{of_line}
use Rattle.ci_yaml_lines.specs.Scalar.{number_of}
use Rattle.ci_yaml_lines.specs.Prelude.{Place}
use Rattle.ci_yaml.specs.Document.{line, block}
use Rattle.ci_yaml_lines.proofs.Forms.{either, OfForms, EachEntry, OfEntries, written_at-each, written-each, entry-each, entries-join, entries-front, entries-behind}

-- ---- a value on a line is a scalar, or a list of scalars

abbrev IsScalar : Value → Type 0
IsScalar v = KeysDiffer v × (depth v ≡ 0)

abbrev AreScalars : Members → Type 0
AreScalars ms = HaveNoNames ms × AllKeysDiffer ms × (members_depth ms ≡ 0)

abbrev IsFlat : Value → Type 0
IsFlat v = KeysDiffer v × (depth v ≤ 1)

abbrev GivenFlat : Option Value → Type 0
GivenFlat None = ⊤
GivenFlat (Some v) = IsFlat v

abbrev EntryFlat : Entry → Type 0
EntryFlat e = GivenFlat e.given

abbrev AllFlat : List Entry → Type 0
AllFlat es = EachEntry EntryFlat es

number-scalar : (m n : Option ℕ) (bs : List ℕ) → IsScalar (number_of m n bs)
number-scalar None None bs = (tt, refl)
number-scalar m n bs = (tt, refl)

plain-scalar : (bs : List ℕ) → IsScalar (plain_value bs)
plain-scalar bs =
    let other : Value = number_or_text bs in
    let zero_or : Value = cond (bytes_eq bs (codes "0")) (number (pos 0)) other in
    let null_or : Value = cond (bytes_eq bs (codes "null") || bytes_eq bs (codes "~")) null zero_or in
    let false_or : Value = cond (bytes_eq bs (codes "false")) (boolean false) null_or in
    either IsScalar (bytes_eq bs (codes "true")) (boolean true) false_or (tt, refl)
    (either IsScalar (bytes_eq bs (codes "false")) (boolean false) null_or (tt, refl)
    (either IsScalar (bytes_eq bs (codes "null") || bytes_eq bs (codes "~")) null zero_or (tt, refl)
    (either IsScalar (bytes_eq bs (codes "0")) (number (pos 0)) other (tt, refl) (number-scalar (count_of bs) (negative_of bs) bs))))

quoted-scalar : (q : Option Quoted) → IsScalar (quoted_place q).value
quoted-scalar None = (tt, refl)
quoted-scalar q = (tt, refl)

place-scalar : (bs : List ℕ) → IsScalar (place bs).value
place-scalar bs =
    either (λ (p : Place). IsScalar p.value) (is_quote (drop_blanks bs)) (quoted_place (quoted (drop_blanks bs))) (plain_place bs (cut_place 44 bs))
    (quoted-scalar (quoted (drop_blanks bs))) (plain-scalar (drop_blanks (trim_end (cut_place 44 bs).raw)))

after-scalars : (end : End) (more : List ℕ → Listed) → ((r : List ℕ) → AreScalars (more r).members) → AreScalars (after_place end more).members
after-scalars (comma rest) more ih = ih rest
after-scalars end more ih = (tt, tt, refl)

places-scalars : (n : ℕ) (bs : List ℕ) → AreScalars (places n bs).members
places-scalars zero bs = (tt, tt, refl)
places-scalars (suc n) bs =
    let one = place-scalar bs in
    let rest = after_place (place bs).end (λ r. places n r) in
    let more = after-scalars (place bs).end (λ r. places n r) (λ r. places-scalars n r) in
    let both : max (depth (place bs).value) (members_depth rest.members) ≡ 0 = rw (one.1, more.2) refl in
    ((refl, more.0), (one.0, more.1), both)

listed-scalars : (w : List ℕ) → AreScalars (listed w).members
listed-scalars w =
    let bs : List ℕ = tail_of w in
    let empty : Listed = record { members = no_members; rest = Some (tail_of (drop_blanks bs)); codes = [] } in
    either (λ (l : Listed). AreScalars l.members) (head_is 93 (drop_blanks bs)) empty (places (length w) bs) (tt, tt, refl) (places-scalars (length w) bs)

abbrev WrittenFlat : Written → Type 0
WrittenFlat w = GivenFlat w.given

forms-flat : OfForms WrittenFlat
forms-flat = record {
  in_quotes = λ q. (tt, omega arith);
  unclosed = (tt, omega arith);
  in_list = λ w. let s = listed-scalars w in ((s.0, s.1), omega (arith, s.2));
  in_block = λ how last bs. (tt, omega arith);
  plain = λ raw. let s = plain-scalar (trim_end raw) in (s.0, omega (arith, s.1));
}

-- ---- the values of a line's entries

entries-flat : OfEntries EntryFlat
entries-flat = record {
  bare_value = λ c w. written_at-each WrittenFlat forms-flat w;
  key_value = λ c k. written-each WrittenFlat forms-flat tt 58 k.rest;
  item_value = λ c bs. written-each WrittenFlat forms-flat tt 45 bs;
  lone_dash = λ c. tt;
}

line-flat : (l : Line) → AllFlat (parse_line l).entries
line-flat l = entry-each EntryFlat entries-flat l

filled-flat : (es : List Entry) (t : List ℕ) → AllFlat es → AllFlat (filled es t)
filled-flat [] t h = tt
filled-flat (e ∷ []) t h = ((tt, omega arith), tt)
filled-flat (e ∷ f ∷ es) t h = (h.0, filled-flat (f ∷ es) t h.1)

parses-flat : (ls : List Line) (es : List Entry) (end : Ending) → Parses ls es end → AllFlat es
parses-flat ls es end none = tt
parses-flat ls es end (line l rest es' all end' clean no_header parses all-is) =
    subst AllFlat (sym all-is) (entries-join EntryFlat (parse_line l).entries es' (line-flat l) (parses-flat rest es' end' parses))
parses-flat ls es end (block l lines rest below how es' all end' last clean header parts are ends parses all-is last-is) =
    let own : List Entry = (parse_line l).entries in
    subst AllFlat (sym all-is) (entries-join EntryFlat (filled own (literal how lines)) es' (filled-flat own (literal how lines) (line-flat l)) (parses-flat rest es' end' parses))

-- ---- the tree

-- keys differ in it, and from depth d on it is not too deep
record Fits (v : Value) (d : ℕ) : Type 0 where
  keys : KeysDiffer v
  deep : d + depth v ≤ suc MAX_DEPTH

record AllFit (ms : Members) (d : ℕ) : Type 0 where
  keys : AllKeysDiffer ms
  deep : d + members_depth ms ≤ suc MAX_DEPTH

flat-fits : (v : Value) (d : ℕ) → IsFlat v → IsWithin d v → d ≤ suc MAX_DEPTH → Fits v d
flat-fits (node kind ms) d h w le = record { keys = h.0; deep = omega (arith, h.1) }
flat-fits v d h w le = record { keys = tt; deep = omega arith }

value-fits : (IsAt : ℕ → Type 0) (v : Value) (l d : ℕ) (given : Option Value) (below : List Entry) → ((m : ℕ) → IsAt m → Fits v (suc d))
    → GivenFlat given → d ≤ MAX_DEPTH → HasValue v given below ((m : ℕ) × (l < m) × IsAt m) (IsWithin (suc d) v) → Fits v (suc d)
value-fits IsAt v l d given below ih flat le (here g nil fits) = flat-fits v (suc d) (subst GivenFlat g flat) fits (omega arith)
value-fits IsAt v l d given below ih flat le (deeper g h) = ih h.0 h.2
value-fits IsAt v l d given below ih flat le (nothing g nil is) = subst (λ (x : Value). Fits x (suc d)) (sym is) (record { keys = tt; deep = omega arith })

mutual
  node-fits : (v : Value) (d l : ℕ) (es : List Entry) → IsNode v d l es → AllFlat es → Fits v d
  node-fits (node kind ms) d l es h flat =
      let m = members-fit ms kind d l es h.0 h.3 flat in
      record { keys = (h.2, m.keys); deep = omega (arith, m.deep) }
  node-fits v d l es h flat = absurd h

  members-fit : (ms : Members) (kind : Kind) (d l : ℕ) (es : List Entry) → d ≤ MAX_DEPTH → AreMembers ms kind d l es → AllFlat es → AllFit ms (suc d)
  members-fit no_members kind d l es le h flat = record { keys = tt; deep = omega arith }
  members-fit (member name v ms) kind d l es le h flat =
      let all : AllFlat (h.0 ∷ (h.1 ++ h.2)) = subst AllFlat h.3 flat in
      let below : AllFlat h.1 = entries-front EntryFlat h.1 h.2 all.1 in
      let one = value-fits (λ m. IsNode v (suc d) m h.1) v l d h.0.given h.1 (λ m n. node-fits v (suc d) m h.1 n below) all.0 le h.6 in
      let more = members-fit ms kind d l h.2 le h.7 (entries-behind EntryFlat h.1 h.2 all.1) in
      record { keys = (one.keys, more.keys); deep = omega (arith, one.deep, more.deep) }

document-fits : (v : Value) (es : List Entry) → IsDocument v es → AllFlat es → KeysDiffer v × (depth v ≤ MAX_DEPTH)
document-fits v es (of_node l le h) flat = let f = node-fits v 1 l es h flat in (f.keys, omega (arith, f.deep))
document-fits v es (of_line e is head column given) flat =
    let one : AllFlat (e ∷ []) = subst AllFlat is flat in
    let own : IsFlat v = subst GivenFlat given one.0 in
    (own.0, omega (arith, own.1))

-- The tree of a text has keys that differ, and is at most ten deep.
pub tree-fits : (bs : List ℕ) (v : Value) → HasTree bs v → KeysDiffer v × (depth v ≤ MAX_DEPTH)
tree-fits bs v h = document-fits v h.entries h.document (parses-flat (lines bs) h.entries h.end h.parses)
