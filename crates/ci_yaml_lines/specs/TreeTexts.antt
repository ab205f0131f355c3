-- The texts of a tree, in the order in which they are written: a key comes before its value.
use Rattle.std.specs.Prelude.{List, [], ◌∷◌, ◌++◌, map}
use Rattle.ci_yaml_lines.specs.declared.tree.Text.{Text}
use Rattle.ci_yaml_lines.specs.declared.tree.Tree.{Tree, fold-Tree}
use Rattle.ci_yaml_lines.specs.declared.tree.Tree.TheOpen.{Tree-F}

abbrev pub lists : List (List Text) → List Text
lists [] = []
lists (ts ∷ tss) = ts ++ lists tss

abbrev pub pairs : List (Text × List Text) → List Text
pairs [] = []
pairs (m ∷ ms) = m.0 ∷ (m.1 ++ pairs ms)

-- one level, with each tree inside already seen as its texts
abbrev pub texts_step : Tree-F (List Text) → List Text
texts_step Tree-F.Null = []
texts_step (Tree-F.Bool b) = []
texts_step (Tree-F.Int n) = []
texts_step (Tree-F.Text t) = t ∷ []
texts_step (Tree-F.List v) = lists v.items
texts_step (Tree-F.Map v) = pairs v.items

abbrev pub texts_in : Tree → List Text
texts_in = fold-Tree (List Text) texts_step

abbrev pub items_texts : List Tree → List Text
items_texts vs = lists (map texts_in vs)

abbrev pub pairs_texts : List (Text × Tree) → List Text
pairs_texts ms = pairs (map (λ m. (m.0, texts_in m.1)) ms)
