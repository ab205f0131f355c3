-- The routes of a path are those of its pattern.
use Rattle.std.proofs.Common.{◌≡◌, ℕ, List, [], ◌∷◌, ◌++◌, map, Option, Some, None, true, false, refl, sym, ap, ◌∙◌, ◌==◌, option_map, unwrap_or, codes, rules}
use Rattle.std.specs.List.{list_all}
use Rattle.std.proofs.lemmas.Bool.{and_parts}
use Rattle.ci_machine.specs.declared.reply.Method.{Method}
use Rattle.ci_http_messages.specs.Prelude.{Numbers, Place, Pattern, Piece, patterns, pieces_fit, first_of, pattern_in, text_at, text_of, text_in, numbers_in, filled, loose, routes_with, routes_by, rows_at, rows_of, LeadsTo, Part, Route}
use Rattle.ci_http_messages.specs.Prelude.{Wanted, routes, with_route, routes_of, routes_at, segments}
use Rattle.ci_http_messages.proofs.Fitting.{unfit, apart, apart-read, named, asks-filled}
use Rattle.ci_http_messages.proofs.Walks.{cases}

-- the routes of one pattern, and their path
pub record Group : Type 0 where
  pub path : List Part
  pub pattern : Pattern
  pub rows : List Route

abbrev pub flat : List Group → List Route
flat [] = []
flat (g ∷ gs) = g.rows ++ flat gs

abbrev pub seen : List Group → List (List Piece × Pattern)
seen gs = map (λ g. (loose g.path, g.pattern)) gs

-- the routes of a pattern that was found, by the texts in its slots
abbrev pub by_pattern : Option Pattern → Option (List ℕ) → Option (List ℕ) → Option (List ℕ) → Option (List ℕ) → List (Method × Wanted)
by_pattern None id n m key = []
by_pattern (Some p) id n m key = routes_with (rows_of p) (unwrap_or key []) (numbers_in id n m)

abbrev pub by_segments : List (List Piece × Pattern) → List (List ℕ) → List (Method × Wanted)
by_segments ps ss = by_pattern (first_of ps ss) (text_of (codes "id") ps ss) (text_of (codes "n") ps ss) (text_of (codes "m") ps ss) (text_of (codes "key") ps ss)

abbrev AllAt : List Piece → List Route → Type 0
AllAt p [] = Unit {0}
AllAt p (r ∷ rs) = (loose r.path ≡ p) × (named r.path ≡ true) × AllAt p rs

-- The rows of a pattern are those of its group, with its path. Those of later groups have other paths.
abbrev pub Good : List Group → Type 0
Good [] = Unit {0}
Good (g ∷ gs) = AllAt (loose g.path) g.rows × (list_all (λ r. apart g.path r.path) (flat gs) ≡ true) × (rows_of g.pattern ≡ g.rows) × Good gs

unread : (p : List Piece) (rs later : List Route) → AllAt p rs → (ss : List (List ℕ)) → pieces_fit p ss ≡ false → routes_of (rs ++ later) ss ≡ routes_of later ss
unread p [] later a ss h = refl
unread p (r ∷ rs) later a ss h =
    ap (λ o. with_route r o (routes_of (rs ++ later) ss)) (unfit r.path r.operation ss (ap (λ z. pieces_fit z ss) a.0 ∙ h)) ∙ unread p rs later a.2 ss h

none-later : (ps : List Part) (rs : List Route) (ss : List (List ℕ)) → list_all (λ r. apart ps r.path) rs ≡ true → pieces_fit (loose ps) ss ≡ true → routes_of rs ss ≡ []
none-later ps [] ss a f = refl
none-later ps (r ∷ rs) ss a f =
    let (one, rest) = and_parts (apart ps r.path) _ a in
    ap (λ o. with_route r o (routes_of rs ss)) (apart-read ps r.path r.operation ss one f) ∙ none-later ps rs ss rest f

none-with : (key : List ℕ) (o : Option Numbers) → routes_with [] key o ≡ []
none-with key None = refl
none-with key (Some v) = refl

one-with : (r : Route) (rs : List Route) (key : List ℕ) (o : Option Numbers)
    → with_route r (option_map (λ v. filled r.path r.operation v key) o) (routes_with rs key o) ≡ routes_with (r ∷ rs) key o
one-with r rs key None = refl
one-with r rs key (Some v) = refl

-- the routes that segments have which fit the path of these rows
abbrev key_of : List Piece → List (List ℕ) → List ℕ
key_of p ss = unwrap_or (text_at (codes "key") p ss) []

abbrev numbers_of : List Piece → List (List ℕ) → Option Numbers
numbers_of p ss = numbers_in (text_at (codes "id") p ss) (text_at (codes "n") p ss) (text_at (codes "m") p ss)

abbrev pub rows_with : List Piece → List (List ℕ) → List Route → List (Method × Wanted)
rows_with p ss rs = routes_with rs (key_of p ss) (numbers_of p ss)

read : (p : List Piece) (rs later : List Route) → AllAt p rs → (ss : List (List ℕ)) → pieces_fit p ss ≡ true → routes_of later ss ≡ [] → routes_of (rs ++ later) ss ≡ rows_with p ss rs
read p [] later a ss f l = l ∙ sym (none-with (key_of p ss) (numbers_of p ss))
read p (r ∷ rs) later a ss f l =
    let one = asks-filled r.path r.operation ss a.1 (ap (λ z. pieces_fit z ss) a.0 ∙ f) in
    let here = rw a.0 at one in
    (λ i. with_route r (here i) (read p rs later a.2 ss f l i)) ∙ one-with r rs (key_of p ss) (numbers_of p ss)

found : (gs : List Group) → Good gs → (ss : List (List ℕ)) → routes_of (flat gs) ss ≡ by_segments (seen gs) ss
found [] q ss = refl
found (g ∷ gs) q ss =
    cases (pieces_fit (loose g.path) ss)
    (λ e. rw e (read (loose g.path) g.rows (flat gs) q.0 ss e (none-later g.path (flat gs) ss q.1 e) ∙ ap (rows_with (loose g.path) ss) (sym q.2)))
    (λ e. rw e (unread (loose g.path) g.rows (flat gs) q.0 ss e ∙ found gs q.3 ss))

-- ---- the groups of the table

abbrev path_in : List Route → List Part
path_in [] = []
path_in (r ∷ rs) = r.path

abbrev pub groups : List Group
groups = map (λ row. record { path = path_in (rows_at row.0); pattern = row.1; rows = rows_at row.0 }) patterns

all-rows : routes ≡ flat groups
unfolding routes patterns
all-rows = refl

all-patterns : patterns ≡ seen groups
unfolding routes patterns
all-patterns = refl

pub good : Good groups
unfolding routes patterns
good = search rules

-- the routes of segments are those of the first pattern that fits
pub at-segments : (ss : List (List ℕ)) → routes_of routes ss ≡ by_segments (seen groups) ss
at-segments ss = ap (λ rs. routes_of rs ss) all-rows ∙ found groups good ss

at-path : (path : List ℕ) → routes_at path ≡ by_pattern (pattern_in patterns path) (text_in (codes "id") patterns path)
    (text_in (codes "n") patterns path) (text_in (codes "m") patterns path) (text_in (codes "key") patterns path)
at-path [] = refl
at-path (b ∷ p) = let ss = segments p in cases (b == 47) (λ e. rw e (at-segments ss ∙ ap (λ ps. by_segments ps ss) (sym all-patterns))) (λ e. rw e refl)

pub leads : (path : List ℕ) (place : Place) → LeadsTo path place → routes_at path ≡ routes_by place
leads path place l = at-path path ∙ (λ i. by_pattern (l.pattern i) (sym l.id i) (sym l.n i) (sym l.m i) (sym l.key i))

pub leads-nowhere : (path : List ℕ) → pattern_in patterns path ≡ None → routes_at path ≡ []
leads-nowhere path h = at-path path ∙ simp h
