-- Each route's operation names the path that asks for it.
use Rattle.std.proofs.Common.{◌≡◌, ℕ, List, [], ◌∷◌, ◌++◌, Option, Some, None, Bool, refl, sym, ap, subst, ◌∙◌, nat_eq, ◌==◌, option_and_then, unwrap_or, decimal, map, rules}
use Rattle.std.specs.List.{find}
use Rattle.std.specs.Cmp.Lexicographic.{pointwise}
use Rattle.std.proofs.lemmas.Slice.Eq.{bytes_eq-Decides}
use Rattle.ci_machine.specs.Prelude.{id_in}
use Rattle.ci_values.proofs.Ids.{id_is}
use Rattle.ci_machine.specs.declared.reply.Method.{Method}
use Rattle.ci_http_messages.specs.Prelude.{Operation, path_text, is_text, method_text, Part, word, number, text, Takes, Route, Wanted, asks, routes, reads, with_route, routes_of}
use Rattle.ci_http_messages.specs.Prelude.{routes_at, asked_by, asked_of, asked_in, segments}
use Rattle.ci_http_messages.proofs.Walks.{cases, same-byte}
use Rattle.ci_http_messages.proofs.Splits.{segments-some}

some-is : {A : Type 0} (d x y : A) → Some x ≡ Some y → x ≡ y
some-is d x y e = ap (λ o. unwrap_or o d) e

-- ---- segments

abbrev join : List (List ℕ) → List ℕ
join [] = []
join (s ∷ []) = s
join (s ∷ t ∷ ss) = s ++ 47 ∷ join (t ∷ ss)

join-onto : (b : ℕ) (s : List ℕ) (ss : List (List ℕ)) → join ((b ∷ s) ∷ ss) ≡ b ∷ join (s ∷ ss)
join-onto b s [] = refl
join-onto b s (t ∷ ss) = refl

joined : (p : List ℕ) → join (segments p) ≡ p
joined [] = refl
joined (b ∷ p) =
    let (s, ss, is) = segments-some p in
    let ih = joined p in
    let k : join (s ∷ ss) ≡ p = rw is at ih in
    cases (b == 47) (λ q. rw (same-byte b 47 q, is) (ap (λ z. 47 ∷ z) k)) (λ q. rw (q, is) (join-onto b s ss ∙ ap (λ z. b ∷ z) k))

-- what stands in the slots of a path
abbrev Slots : List Part → Type 0
Slots [] = Unit {0}
Slots (word w ∷ ps) = Slots ps
Slots (number x ∷ ps) = ℕ × Slots ps
Slots (text x ∷ ps) = List ℕ × Slots ps

abbrev spelled : (ps : List Part) → Slots ps → List (List ℕ)
spelled [] vs = []
spelled (word w ∷ ps) vs = w ∷ spelled ps vs
spelled (number x ∷ ps) vs = decimal vs.0 ∷ spelled ps vs.1
spelled (text x ∷ ps) vs = vs.0 ∷ spelled ps vs.1

abbrev applied : (ps : List Part) → Takes ps → Slots ps → Operation (List ℕ)
applied [] op vs = op
applied (word w ∷ ps) op vs = applied ps op vs
applied (number x ∷ ps) op vs = applied ps (op vs.0) vs.1
applied (text x ∷ ps) op vs = applied ps (op vs.0) vs.1

abbrev Spells : (ps : List Part) → Takes ps → List (List ℕ) → Operation (List ℕ) → Type 0
Spells ps op ss o = (vs : Slots ps) × (ss ≡ spelled ps vs) × (applied ps op vs ≡ o)

spells : (ps : List Part) (op : Takes ps) (ss : List (List ℕ)) (o : Operation (List ℕ)) → reads ps op ss ≡ Some o → Spells ps op ss o
spells [] op [] o e = (tt, refl, some-is o op o e)
spells (word w ∷ ps) op (s ∷ ss) o e =
    cases (pointwise nat_eq w s) (
    λ q.
    let (vs, is, gives) = spells ps op ss o (rw q at e) in
    (vs, ap (λ z. z ∷ ss) (sym ((bytes_eq-Decides w s).0 q)) ∙ ap (λ z. w ∷ z) is, gives)
    )
    (λ q. let k = rw q at e in cc)
spells (number x ∷ ps) op (s ∷ ss) o e = by (id_in s) refl e (λ n. spells ps (op n) ss o)
  where
    by : (v : Option ℕ) → id_in s ≡ v → option_and_then (λ n. reads ps (op n) ss) v ≡ Some o → ((n : ℕ) → reads ps (op n) ss ≡ Some o → Spells ps (op n) ss o)
        → Spells (number x ∷ ps) op (s ∷ ss) o
    by None q e ih = cc
    by (Some n) q e ih =
        let h = ih n e in
        ((n, h.0), ap (λ z. z ∷ ss) (id_is s n q).1 ∙ ap (λ z. decimal n ∷ z) h.1, h.2)
spells (text x ∷ ps) op ((b ∷ s) ∷ ss) o e =
    let (vs, is, gives) = spells ps (op (b ∷ s)) ss o e in
    ((b ∷ s, vs), ap (λ z. (b ∷ s) ∷ z) is, gives)
spells _ op _ o e = cc

-- ---- the table

-- a route's operation, with what stands in its slots, names its path
abbrev Names : Route → Type 0
Names r = (vs : Slots r.path) → 47 ∷ join (spelled r.path vs) ≡ path_text (applied r.path r.operation vs)

abbrev AllName : List Route → Type 0
AllName [] = Unit {0}
AllName (r ∷ rs) = Names r × AllName rs

abbrev AllNamed : List ℕ → List (Method × Wanted) → Type 0
AllNamed path [] = Unit {0}
AllNamed path (f ∷ fs) = (path ≡ path_text f.1.operation) × AllNamed path fs

one-named : (r : Route) (ss : List (List ℕ)) (rest : List (Method × Wanted)) → Names r → AllNamed (47 ∷ join ss) rest
    → AllNamed (47 ∷ join ss) (with_route r (reads r.path r.operation ss) rest)
one-named r ss rest n h = by (reads r.path r.operation ss) refl
  where
    by : (o : Option (Operation (List ℕ))) → reads r.path r.operation ss ≡ o → AllNamed (47 ∷ join ss) (with_route r o rest)
    by None e = h
    by (Some o) e =
        let q = spells r.path r.operation ss o e in
        (ap (λ z. 47 ∷ join z) q.1 ∙ n q.0 ∙ ap path_text q.2, h)

rows-named : (rs : List Route) → AllName rs → (ss : List (List ℕ)) → AllNamed (47 ∷ join ss) (routes_of rs ss)
rows-named [] n ss = tt
rows-named (r ∷ rs) n ss = one-named r ss (routes_of rs ss) n.0 (rows-named rs n.1 ss)

all-name : AllName routes
unfolding routes
all-name = search rules

path-named : (path : List ℕ) → AllNamed path (routes_at path)
path-named [] = tt
path-named (b ∷ p) =
    cases (b == 47) (λ q. rw (same-byte b 47 q) (subst (λ z. AllNamed (47 ∷ z) (routes_of routes (segments p))) (joined p) (rows-named routes all-name (segments p))))
    (λ q. rw q tt)

found-named : (path : List ℕ) (test : Method × Wanted → Bool) (rs : List (Method × Wanted)) (methods : List Method) (w : Wanted) → AllNamed path rs
    → asked_by methods (find test rs) ≡ asks w → path ≡ path_text w.operation
found-named path test [] methods w n e = cc
found-named path test (f ∷ fs) methods w n e =
    cases (test f) (λ q. let k = rw q at e in let s : f.1 ≡ w = cc in n.0 ∙ ap (λ z. path_text z.operation) s) (λ q. found-named path test fs methods w n.1 (rw q at e))

asked-named : (method path : List ℕ) (rs : List (Method × Wanted)) (w : Wanted) → AllNamed path rs → asked_of method rs ≡ asks w → path ≡ path_text w.operation
asked-named method path [] w n e = cc
asked-named method path (r ∷ rs) w n e = found-named path (λ found. is_text (method_text found.0) method) (r ∷ rs) (map (λ found. found.0) (r ∷ rs)) w n e

pub one_path : (method path : List ℕ) (w : Wanted) → asked_in method path ≡ asks w → path ≡ path_text w.operation
one_path method path w e = asked-named method path (routes_at path) w (path-named path) e
