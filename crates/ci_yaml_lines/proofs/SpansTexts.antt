-- The texts of trees and open nodes that grow at their end.
use Rattle.std.proofs.Common.{◌≡◌, List, [], ◌∷◌, ◌++◌, sym, ◌∙◌, ap, append_assoc, append-nil, rules}
use Rattle.std.specs.Global.{Vec}
use Rattle.ci_yaml_lines.specs.declared.tree.Text.{Text}
use Rattle.ci_yaml_lines.specs.Prelude.{Tree, List as ListTree, Map as MapTree, the_lemmas, texts_in, items_texts, pairs_texts}
use Rattle.ci_yaml_lines.specs.declared.tree.Tree.{Text as TextTree}

pub texts-List : (v : Vec Tree) → texts_in (ListTree v) ≡ items_texts v.items
texts-List v = search (rules, the_lemmas)

pub texts-Map : (v : Vec (Text × Tree)) → texts_in (MapTree v) ≡ pairs_texts v.items
texts-Map v = search (rules, the_lemmas)

pub texts-Text : (t : Text) → texts_in (TextTree t) ≡ t ∷ []
texts-Text t = search (rules, the_lemmas)

pub items_texts-push : (vs : List Tree) (v : Tree) → items_texts (vs ++ v ∷ []) ≡ items_texts vs ++ texts_in v
items_texts-push [] v = append-nil (texts_in v)
items_texts-push (w ∷ vs) v = ap (λ (ts : List Text). texts_in w ++ ts) (items_texts-push vs v) ∙ sym (append_assoc (texts_in w) (items_texts vs) (texts_in v))

pub pairs_texts-push : (ms : List (Text × Tree)) (k : Text) (v : Tree) → pairs_texts (ms ++ (k, v) ∷ []) ≡ pairs_texts ms ++ k ∷ texts_in v
pairs_texts-push [] k v = ap (λ (ts : List Text). k ∷ ts) (append-nil (texts_in v))
pairs_texts-push (m ∷ ms) k v =
    ap (λ (ts : List Text). m.0 ∷ (texts_in m.1 ++ ts)) (pairs_texts-push ms k v) ∙ ap (λ (ts : List Text). m.0 ∷ ts) (sym (append_assoc (texts_in m.1) (pairs_texts ms) (k ∷ texts_in v)))
