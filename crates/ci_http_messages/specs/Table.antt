-- The router's rows.
use Rattle.std.specs.Prelude.{◌≡◌, ℕ, List, [], ◌∷◌, map, None, Result, Ok, Err}
use Rattle.std.specs.Borrow.{Bor}
use Rattle.matchit.specs.Rows.{RowsOf}
use Rattle.matchit.specs.Router.{RouteOf, route_from, nearest}
use Rattle.matchit.specs.Order.{placed}
use Rattle.matchit.specs.Route.{Scan, parse_route}
use Rattle.matchit.specs.declared.error.InsertError.{InsertError}
use Rattle.ci_http_messages.specs.declared.routing.table.Pattern.{Pattern}
use Rattle.ci_http_messages.specs.declared.routing.table.TheConstants.{PATHS}

-- the rows with what a path's text gives
abbrev pub with_scan : Result Scan InsertError → Pattern → RowsOf (RouteOf Pattern) → RowsOf (RouteOf Pattern)
with_scan (Ok s) value rows = placed (s.pattern, route_from s value) rows
with_scan (Err e) value rows = rows

abbrev pub with_path : List ℕ → Pattern → RowsOf (RouteOf Pattern) → RowsOf (RouteOf Pattern)
with_path path value rows = with_scan (parse_route path) value rows

-- the router takes a path: it reads well, and no path that the router has conflicts with it
abbrev pub TakesScan : Result Scan InsertError → RowsOf (RouteOf Pattern) → Type 0
TakesScan (Ok s) rows = nearest s.pattern rows ≡ None
TakesScan (Err e) rows = ⊥

abbrev pub TakesPath : List ℕ → RowsOf (RouteOf Pattern) → Type 0
TakesPath path rows = TakesScan (parse_route path) rows

-- the same of paths, one after the other
abbrev pub with_paths : List (List ℕ × Pattern) → RowsOf (RouteOf Pattern) → RowsOf (RouteOf Pattern)
with_paths [] rows = rows
with_paths (p ∷ ps) rows = with_paths ps (with_path p.0 p.1 rows)

abbrev pub TakesPaths : List (List ℕ × Pattern) → RowsOf (RouteOf Pattern) → Type 0
TakesPaths [] rows = Unit {0}
TakesPaths (p ∷ ps) rows = TakesPath p.0 rows × TakesPaths ps (with_path p.0 p.1 rows)

-- paths as they are written in the code
abbrev pub written : List (Bor (List ℕ) × Pattern) → List (List ℕ × Pattern)
written rows = map (λ row. (row.0.now, row.1)) rows

abbrev pub paths : List (List ℕ × Pattern)
paths = map (λ row. (row.0.now, row.1)) PATHS

-- the rows of all paths
unfoldable pub table : RowsOf (RouteOf Pattern)
table = with_paths paths []
