-- Where a path leads: its pattern and what stands in its slots, and the routes that it has by these.
use Rattle.std.specs.Prelude.{◌≡◌, ℕ, Bool, true, false, List, [], ◌∷◌, ◌&&◌, if◌then◌else◌, map, filter, Option, Some, None, option_map, option_and_then, unwrap_or, codes}
use denote.Enum.Bare.{sameb}
use Rattle.ci_machine.specs.Prelude.{id_in}
use Rattle.ci_machine.specs.declared.reply.Method.{Method}
use Rattle.ci_http_messages.specs.declared.routing.operation.Operation.{Operation}
use Rattle.ci_http_messages.specs.declared.routing.place.Numbers.{Numbers}
use Rattle.ci_http_messages.specs.declared.routing.place.Place.{Place}
use Rattle.ci_http_messages.specs.declared.routing.table.Entry.{Entry}
use Rattle.ci_http_messages.specs.declared.routing.table.Entries.{Entries}
use Rattle.ci_http_messages.specs.declared.routing.table.Pattern.{Pattern}
use Rattle.ci_http_messages.specs.contracts.routing.table.Pattern.{the_type}
use Rattle.ci_http_messages.specs.Answers.{map_key, wanted}
use Rattle.ci_http_messages.specs.Methods.{is_text}
use Rattle.ci_http_messages.specs.Patterns.{Piece, fixed, slot, patterns, pattern_in, text_in}
use Rattle.ci_http_messages.specs.Routes.{Part, word, number, text, Takes, Route, Wanted, routes}

-- a method's routes in a list of them
module _ {K : Type 0} (view : K → List ℕ) where
  abbrev pub entry : Entry K → Method × Wanted
  entry e = (e.method, wanted (map_key view e.operation))

  abbrev pub entry_after : Option (Entry K) → List (Method × Wanted)
  entry_after None = []
  entry_after (Some e) = entry e ∷ []

  abbrev pub listed : Entries K → List (Method × Wanted)
  listed entries = entry entries.first ∷ entry_after entries.second

-- ---- which rows of the table of routes a pattern has

-- a route's path as the router sees it
abbrev pub loose : List Part → List Piece
loose [] = []
loose (word w ∷ ps) = fixed w ∷ loose ps
loose (number x ∷ ps) = slot x ∷ loose ps
loose (text x ∷ ps) = slot x ∷ loose ps

abbrev pub same_piece : Piece → Piece → Bool
same_piece (fixed v) (fixed w) = is_text v w
same_piece (slot x) (slot y) = is_text x y
same_piece _ _ = false

abbrev pub same_pieces : List Piece → List Piece → Bool
same_pieces [] [] = true
same_pieces (p ∷ ps) (q ∷ qs) = same_piece p q && same_pieces ps qs
same_pieces _ _ = false

-- the routes whose path is this
abbrev pub rows_at : List Piece → List Route
rows_at ps = filter (λ r. same_pieces (loose r.path) ps) routes

-- the path of a pattern
abbrev pub pieces_of : List (List Piece × Pattern) → Pattern → List Piece
pieces_of [] p = []
pieces_of ((ps, q) ∷ rest) p = if sameb the_type q p then ps else pieces_of rest p

abbrev pub rows_of : Pattern → List Route
rows_of p = rows_at (pieces_of patterns p)

-- ---- what these ask for

-- the number that stands in a slot, 0 where there is no slot
abbrev pub number_at : Option (List ℕ) → Option ℕ
number_at None = Some 0
number_at (Some t) = id_in t

-- the numbers that stand in the slots of a path, if each is one
abbrev pub numbers_in : Option (List ℕ) → Option (List ℕ) → Option (List ℕ) → Option Numbers
numbers_in id n m =
    option_and_then (λ i. option_and_then (λ k. option_map (λ l. record { id = i; n = k; m = l }) (number_at m)) (number_at n)) (number_at id)

abbrev pub number_named : List ℕ → Numbers → ℕ
number_named name v = if is_text (codes "id") name then v.id else if is_text (codes "n") name then v.n else v.m

-- what a path asks for, by the numbers in its slots and its key
abbrev pub filled : (ps : List Part) → Takes ps → Numbers → List ℕ → Operation (List ℕ)
filled [] op v key = op
filled (word w ∷ ps) op v key = filled ps op v key
filled (number x ∷ ps) op v key = filled ps (op (number_named x v)) v key
filled (text x ∷ ps) op v key = filled ps (op key) v key

abbrev pub route_with : Numbers → List ℕ → Route → Method × Wanted
route_with v key r = (r.method, record { fields = r.fields; body = r.body; operation = filled r.path r.operation v key })

abbrev pub routes_with : List Route → List ℕ → Option Numbers → List (Method × Wanted)
routes_with rows key None = []
routes_with rows key (Some v) = map (route_with v key) rows

-- the routes of a place, of which it has none where a slot for a number has none
abbrev pub routes_by : Place → List (Method × Wanted)
routes_by place =
    routes_with (rows_of place.pattern) (unwrap_or (option_map (λ t. t.now) place.key) [])
    (numbers_in (option_map (λ t. t.now) place.id) (option_map (λ t. t.now) place.n) (option_map (λ t. t.now) place.m))

-- a path leads to a place
pub record LeadsTo (path : List ℕ) (place : Place) : Type 0 where
  pub pattern : pattern_in patterns path ≡ Some place.pattern
  pub id : option_map (λ t. t.now) place.id ≡ text_in (codes "id") patterns path
  pub n : option_map (λ t. t.now) place.n ≡ text_in (codes "n") patterns path
  pub m : option_map (λ t. t.now) place.m ≡ text_in (codes "m") patterns path
  pub key : option_map (λ t. t.now) place.key ≡ text_in (codes "key") patterns path
