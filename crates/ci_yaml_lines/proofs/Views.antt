-- A tree of the code, level by level, and lists that grow at their end.
use Rattle.std.proofs.Common.{◌≡◌, ℤ, Bool, List, [], ◌∷◌, ◌++◌, refl, ap, rules}
use Rattle.std.specs.Global.{Vec}
use Rattle.ci_yaml_lines.specs.Prelude.{sequence, mapping, null, boolean, number, text, node, member, push, bytes_of, value_view, items_view, pairs_view, Tree, Null as NullTree}
use Rattle.ci_yaml_lines.specs.Prelude.{Bool as BoolTree, Int as IntTree, List as ListTree, Map as MapTree, the_lemmas}
use Rattle.ci_yaml_lines.specs.declared.tree.Text.{Text}
use Rattle.ci_yaml_lines.specs.declared.tree.Tree.{Text as TextTree}

pub view-List : (v : Vec Tree) → value_view (ListTree v) ≡ node sequence (items_view v.items)
view-List v = search (rules, the_lemmas)

pub view-Map : (v : Vec (Text × Tree)) → value_view (MapTree v) ≡ node mapping (pairs_view v.items)
view-Map v = search (rules, the_lemmas)

pub view-Text : (x : Text) → value_view (TextTree x) ≡ text (bytes_of x)
view-Text x = search (rules, the_lemmas)

pub view-Null : value_view NullTree ≡ null
view-Null = search (rules, the_lemmas)

pub view-Bool : (b : Bool) → value_view (BoolTree b) ≡ boolean b
view-Bool b = search (rules, the_lemmas)

pub view-Int : (n : ℤ) → value_view (IntTree n) ≡ number n
view-Int n = search (rules, the_lemmas)

pub items-push : (vs : List Tree) (v : Tree) → items_view (vs ++ v ∷ []) ≡ push (items_view vs) [] (value_view v)
items-push [] v = refl
items-push (w ∷ vs) v = ap (member [] (value_view w)) (items-push vs v)

pub pairs-push : (ms : List (Text × Tree)) (k : Text) (v : Tree) → pairs_view (ms ++ (k, v) ∷ []) ≡ push (pairs_view ms) (bytes_of k) (value_view v)
pairs-push [] k v = refl
pairs-push (m ∷ ms) k v = ap (member (bytes_of m.0) (value_view m.1)) (pairs-push ms k v)
