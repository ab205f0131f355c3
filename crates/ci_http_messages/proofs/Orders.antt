-- The routes of a path: one for each method, in the order of the methods' names.
use Rattle.std.proofs.Common.{◌≡◌, ◌≤◌, ℕ, List, [], ◌∷◌, length, Option, Some, None, Bool, true, false, cond, refl, sym, subst, ◌∙◌, ◌==◌, arith, map, filter, rules}
use Rattle.std.proofs.lemmas.Slice.Eq.{bytes_eq-Decides}
use Rattle.ci_machine.specs.declared.reply.Method.{Method}
use Rattle.ci_http_messages.specs.Prelude.{Numbers, Route, Wanted, ascends, is_text, method_text, routes, patterns, pieces_fit, loose, routes_with, routes_at, segments}
use Rattle.ci_http_messages.proofs.Walks.{cases}
use Rattle.ci_http_messages.proofs.Groups.{Group, Good, groups, good, seen, by_segments, rows_with, at-segments}

-- two methods of one path: their names differ, and stand in their order
abbrev InOrder : Method → Method → Type 0
InOrder one other = (ascends (method_text one ∷ method_text other ∷ []) ≡ true) × (is_text (method_text one) (method_text other) ≡ false)

-- a path has one route at most, or two whose methods are in order
abbrev Few : List Route → Type 0
Few [] = Unit {0}
Few (r ∷ []) = Unit {0}
Few (r ∷ l ∷ []) = InOrder r.method l.method
Few (r ∷ l ∷ m ∷ rs) = ⊥

abbrev AllFew : List Group → Type 0
AllFew [] = Unit {0}
AllFew (g ∷ gs) = Few g.rows × AllFew gs

all-few : AllFew groups
unfolding routes patterns
all-few = search rules

-- what holds of no route, of one, and of two whose methods are in order holds of the routes of each path
module _ (P : List (Method × Wanted) → Type 0) (none : P []) (alone : (m : Method) (w : Wanted) → P ((m, w) ∷ []))
    (both : (m l : Method) (w v : Wanted) → InOrder m l → P ((m, w) ∷ (l, v) ∷ [])) where
  on-rows : (rs : List Route) → Few rs → (key : List ℕ) (numbers : Option Numbers) → P (routes_with rs key numbers)
  on-rows rs f key None = none
  on-rows [] f key (Some v) = none
  on-rows (r ∷ []) f key (Some v) = alone r.method _
  on-rows (r ∷ l ∷ []) f key (Some v) = both r.method l.method _ _ f
  on-rows (r ∷ l ∷ m ∷ rs) f key (Some v) = absurd f

  on-groups : (gs : List Group) → Good gs → AllFew gs → (ss : List (List ℕ)) → P (by_segments (seen gs) ss)
  on-groups [] q f ss = none
  on-groups (g ∷ gs) q f ss =
      cases (pieces_fit (loose g.path) ss) (λ e. rw e (subst (λ rs. P (rows_with (loose g.path) ss rs)) (sym q.2) (on-rows g.rows f.0 _ _))) (λ e. rw e (on-groups gs q.3 f.1 ss))

  pub on-path : (path : List ℕ) → P (routes_at path)
  on-path [] = none
  on-path (b ∷ p) = cases (b == 47) (λ e. rw e (subst P (sym (at-segments (segments p))) (on-groups groups good all-few (segments p)))) (λ e. rw e none)

abbrev Ascends : List (Method × Wanted) → Type 0
Ascends rs = ascends (map (λ found. method_text found.0) rs) ≡ true

pub methods_ascend : (path : List ℕ) → Ascends (routes_at path)
methods_ascend path = on-path Ascends refl (λ m w. refl) (λ m l w v is. is.0) path

abbrev FewOf : List ℕ → List (Method × Wanted) → Type 0
FewOf method rs = length (filter (λ found. is_text (method_text found.0) method) rs) ≤ 1

few : (v : Bool) (x : Method × Wanted) → length (cond v (x ∷ []) []) ≤ 1
few true x = omega arith
few false x = omega arith

one-of : (method : List ℕ) (m : Method) (w : Wanted) → FewOf method ((m, w) ∷ [])
one-of method m w = few (is_text (method_text m) method) (m, w)

-- no text is both names
apart : (one other method : List ℕ) → is_text one other ≡ false → is_text one method ≡ true → is_text other method ≡ true → ⊥
apart one other method n d p =
    let a : one ≡ method = (bytes_eq-Decides one method).0 d in
    let b : other ≡ method = (bytes_eq-Decides other method).0 p in
    let e : is_text one other ≡ true = (bytes_eq-Decides one other).1 (a ∙ sym b) in
    cc

one-of-two : (method : List ℕ) (m l : Method) (w v : Wanted) → InOrder m l → FewOf method ((m, w) ∷ (l, v) ∷ [])
one-of-two method m l w v is =
    cases (is_text (method_text m) method)
    (λ d. cases (is_text (method_text l) method) (λ p. absurd (apart (method_text m) (method_text l) method is.1 d p)) (λ p. rw (d, p) (omega arith)))
    (λ d. rw d (few (is_text (method_text l) method) (l, v)))

pub one_route : (method path : List ℕ) → FewOf method (routes_at path)
one_route method path = on-path (FewOf method) (omega arith) (one-of method) (one-of-two method) path
