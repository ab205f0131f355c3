-- Trees and lists of the code, step by step.
use Rattle.std.proofs.Common.{◌≡◌, ℕ, suc, ◌+◌, ◌<◌, length, get_or, drop, drop-cons, arith, List, [], ◌∷◌, Result, Ok, vec_len, refl, sym, ap, ◌∙◌, map, rules}
use Rattle.std.proofs.lemmas.List.{length-map}
use Rattle.std.specs.Global.{Vec}
use Rattle.ci_config.specs.Prelude.{sequence, mapping, Value, node, bytes_of, value_view, items_of, items_view, Tree, List as ListTree, Map as MapTree, the_lemmas, Placed}
use Rattle.ci_config.specs.Prelude.{index_of, job_judged, jobs_judged, items_in, pairs_in, list_of, map_of, values_view, pairs_view, job_view}
use Rattle.ci_yaml_lines.specs.TreeView as view
use Rattle.ci_yaml_lines.specs.declared.tree.Text.{Text}
use Rattle.ci_config.specs.Config as config
use Rattle.ci_config.specs.declared.job.JobSpec.{JobSpec}

-- ---- a list and a map of the code
view-List : (v : Vec Tree) → value_view (ListTree v) ≡ node sequence (items_view v.items)
view-List v = search (rules, the_lemmas)

view-Map : (v : Vec (Text × Tree)) → value_view (MapTree v) ≡ node mapping (view.pairs_view v.items)
view-Map v = search (rules, the_lemmas)

items-same : (vs : List Value) → items_in (items_of vs) ≡ vs
items-same [] = refl
items-same (v ∷ vs) = ap (λ xs. v ∷ xs) (items-same vs)

pairs-same : (ms : List (Text × Tree)) → pairs_in (view.pairs_view ms) ≡ pairs_view ms
pairs-same [] = refl
pairs-same (m ∷ ms) = ap (λ xs. (bytes_of m.0, value_view m.1) ∷ xs) (pairs-same ms)

abbrev listed : List Value → Result (List Value) Placed
listed vs = Ok vs

abbrev paired : List (List ℕ × Value) → Result (List (List ℕ × Value)) Placed
paired ms = Ok ms

pub list_of-List : (t : Tree) (v : Vec Tree) (vs : List Tree) → t ≡ ListTree v → vs ≡ v.items → list_of (value_view t) ≡ Ok (values_view vs)
list_of-List t v vs e f = ap (λ t. list_of (value_view t)) e ∙ ap list_of (view-List v) ∙ ap listed (items-same (values_view v.items)) ∙ ap (λ vs. listed (values_view vs)) (sym f)

pub map_of-Map : (t : Tree) (v : Vec (Text × Tree)) (ms : List (Text × Tree)) → t ≡ MapTree v → ms ≡ v.items → map_of (value_view t) ≡ Ok (pairs_view ms)
map_of-Map t v ms e f = ap (λ t. map_of (value_view t)) e ∙ ap map_of (view-Map v) ∙ ap paired (pairs-same v.items) ∙ ap (λ ms. paired (pairs_view ms)) (sym f)

-- ---- one step along a list of the code
pub step : {A B : Type 0} (view : A → B) (xs : List A) (i : ℕ) (x : A) → i < length xs → x ≡ get_or xs i x → map view (drop i xs) ≡ view x ∷ map view (drop (i + 1) xs)
step view xs i x lt is =
    let e : suc i ≡ i + 1 = omega arith in
    ap (map view) (drop-cons xs i x lt ∙ ap (λ y. y ∷ drop (suc i) xs) (sym is) ∙ ap (λ k. x ∷ drop k xs) e)

pub next-job : (ms : List (config.Text × Value)) (stages : List config.Text) (js : List JobSpec) (i : ℕ) (j : JobSpec) → i < length js → j ≡ get_or js i j → (next : Result config.Config Placed)
    → jobs_judged ms stages (map job_view (drop i js)) next ≡ job_judged (index_of ms (job_view j).name) stages (job_view j) (jobs_judged ms stages (map job_view (drop (i + 1) js)) next)
next-job ms stages js i j lt is next = ap (λ xs. jobs_judged ms stages xs next) (step job_view js i j lt is)

-- ---- a list of the code that grows at its end, and how many it has
pub count-is : {A B : Type 0} (view : A → B) (v : Vec A) (n : ℕ) → n ≡ vec_len v → length (map view v.items) ≡ n
count-is view v n e = let h = v.ok.0 in omega (arith, length-map v.items view, e, h)
