-- A tree of the code, without where it lies in memory.
use Rattle.std.specs.Prelude.{ℕ, List, [], ◌∷◌, map, string_bytes}
use Rattle.ci_yaml_lines.specs.declared.tree.Text.{Text}
use Rattle.ci_yaml_lines.specs.declared.tree.Words.{Words}
use Rattle.ci_yaml_lines.specs.declared.tree.Words.TheVariants.{Lent, Owned}
use Rattle.ci_yaml_lines.specs.declared.tree.Tree.{Tree, fold-Tree}
use Rattle.ci_yaml_lines.specs.declared.tree.Tree.TheOpen.{Tree-F}
use Rattle.ci_yaml_lines.specs.Tree.{sequence, mapping, Value, null, boolean, number, text, node, Members, no_members, member}

abbrev pub words_of : Words → List ℕ
words_of (Lent s) = s.now
words_of (Owned s) = string_bytes s

abbrev pub bytes_of : Text → List ℕ
bytes_of t = words_of t.words

abbrev pub items_of : List Value → Members
items_of [] = no_members
items_of (v ∷ vs) = member [] v (items_of vs)

abbrev pub pairs_of : List (Text × Value) → Members
pairs_of [] = no_members
pairs_of (m ∷ ms) = member (bytes_of m.0) m.1 (pairs_of ms)

-- the members of both
abbrev pub joined : Members → Members → Members
joined no_members ns = ns
joined (member n v ms) ns = member n v (joined ms ns)

-- one level, with each tree inside already seen as its value
abbrev pub view_step : Tree-F Value → Value
view_step Tree-F.Null = null
view_step (Tree-F.Bool b) = boolean b
view_step (Tree-F.Int n) = number n
view_step (Tree-F.Text t) = text (bytes_of t)
view_step (Tree-F.List v) = node sequence (items_of v.items)
view_step (Tree-F.Map v) = node mapping (pairs_of v.items)

abbrev pub value_view : Tree → Value
value_view = fold-Tree Value view_step

abbrev pub items_view : List Tree → Members
items_view vs = items_of (map value_view vs)

abbrev pub pairs_view : List (Text × Tree) → Members
pairs_view ms = pairs_of (map (λ m. (m.0, value_view m.1)) ms)
