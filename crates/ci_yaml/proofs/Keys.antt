-- The keys of an open map, beside its pairs.
use Rattle.std.proofs.Common.{◌≡◌, ℕ, Bool, true, false, cond, List, [], ◌∷◌, ◌++◌, sym, ◌∙◌, ◌||◌, String, string_bytes, string_cmp, arith}
use Rattle.std.specs.BTreeSet.{BTreeSet, UpdatesBy, contains_text}
use Rattle.std.specs.Str.{bytes_eq}
use Rattle.std.proofs.lemmas.Bool.Decides.{Decides-like, same_from_decides}
use Rattle.std.proofs.lemmas.Map.Text.{btree_set_updates_text}
use Rattle.std.proofs.lemmas.Slice.Eq.{bytes_eq-Decides}
use Rattle.ci_yaml.specs.Prelude.{Text, Tree, Value, Members, no_members, member, push, same_text, has_name, bytes_of, value_view, pairs_view}
use Rattle.ci_yaml_lines.proofs.Views.{pairs-push}

pub has-push : (k : List ℕ) (ms : Members) (name : List ℕ) (v : Value) → has_name k (push ms name v) ≡ (has_name k ms || same_text k name)
has-push k no_members name v = by (same_text k name)
  where
    by : (b : Bool) → cond b true false ≡ b
    by b = grind arith
has-push k (member n w ms) name v = rw (has-push k ms name v) (by (same_text k n) (has_name k ms) (same_text k name))
  where
    by : (a b c : Bool) → cond a true (b || c) ≡ (cond a true b || c)
    by a b c = grind arith

either_way : (a b : List ℕ) → bytes_eq a b ≡ bytes_eq b a
either_way a b = same_from_decides (bytes_eq a b) (bytes_eq b a) (bytes_eq-Decides a b) (Decides-like (bytes_eq b a) (λ e. sym e) (λ e. sym e) (bytes_eq-Decides b a))

-- after one pair more, and its key
pub keys-more : {Y : Type 0} (s n : BTreeSet (String Y)) (ps : List (Text × Tree)) (key : Text) (v : Tree) (name : String Y) → string_bytes name ≡ bytes_of key
    → UpdatesBy string_cmp (string_cmp name) s n true → ((k : List ℕ) → contains_text s k ≡ has_name k (pairs_view ps))
    → (k : List ℕ) → contains_text n k ≡ has_name k (pairs_view (ps ++ (key, v) ∷ []))
keys-more s n ps key v name is up same k =
    btree_set_updates_text (string_bytes name) s n true up k
    ∙ rw (is, either_way (bytes_of key) k, same k, pairs-push ps key v, has-push k (pairs_view ps) (bytes_of key) (value_view v))
    (by (bytes_eq k (bytes_of key)) (has_name k (pairs_view ps)))
  where
    by : (a b : Bool) → cond a true b ≡ (b || a)
    by a b = grind arith
