-- No path has more than two methods.
use Rattle.std.proofs.Common.{◌≡◌, ℕ, List, [], ◌∷◌, map, refl, ap, subst, Option, Some, None, option_map}
use Rattle.std.specs.List.{find}
use Rattle.ci_machine.specs.declared.reply.Method.{Method}
use Rattle.ci_http_messages.specs.Prelude.{is_text, method_text, Wanted, Asked, no_route, other_methods, asks, asked_by, asked_of, asked_in, routes_at, listed, methods_of}
use Rattle.ci_http_messages.proofs.Orders.{on-path}

-- a reply can list these methods
abbrev Lists : List Method → Type 0
Lists methods = option_map listed (methods_of methods) ≡ Some methods

abbrev ListsAny : List (Method × Wanted) → Type 0
ListsAny [] = Unit {0}
ListsAny (r ∷ rs) = Lists (map (λ found. found.0) (r ∷ rs))

lists-any : (path : List ℕ) → ListsAny (routes_at path)
lists-any path = on-path ListsAny tt (λ m w. refl) (λ m l w v is. refl) path

methods-in : Asked → List Method
methods-in no_route = []
methods-in (other_methods methods) = methods
methods-in (asks w) = []

by-found : (methods ms : List Method) (found : Option (Method × Wanted)) → Lists methods → asked_by methods found ≡ other_methods ms → Lists ms
unfolding methods-in
by-found methods ms None h e = subst Lists (ap methods-in e) h
by-found methods ms (Some found) h e = cc

by-routes : (method : List ℕ) (ms : List Method) (rs : List (Method × Wanted)) → ListsAny rs → asked_of method rs ≡ other_methods ms → Lists ms
by-routes method ms [] h e = cc
by-routes method ms (r ∷ rs) h e = by-found (map (λ found. found.0) (r ∷ rs)) ms (find (λ found. is_text (method_text found.0) method) (r ∷ rs)) h e

pub names_each : (method path : List ℕ) (ms : List Method) → asked_in method path ≡ other_methods ms → Lists ms
names_each method path ms e = by-routes method ms (routes_at path) (lists-any path) e
