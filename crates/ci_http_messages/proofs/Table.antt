-- The router's rows are the table of pieces.
use Rattle.std.proofs.Common.{◌≡◌, ℕ, suc, ◌<◌, List, [], ◌∷◌, length, get_or, Option, Some, true, refl, sym, ap, ◌∙◌, arith, rules, map, option_map, Fits, w8, ◌==◌}
use Rattle.matchit.proofs.OnLiterals.{matchit_on_literals}
use Rattle.matchit.specs.Rows.{RowsOf}
use Rattle.matchit.specs.Router.{RouteOf}
use Rattle.matchit.specs.Seek.{first}
use Rattle.matchit.specs.Level.{IsText}
use Rattle.ci_http_messages.specs.Prelude.{Pattern, paths, TakesPaths, table, patterns, pattern_in, text_in, fits, first_fit, all_tidy, sorted}
use Rattle.std.specs.Str.{IsUtf8}
use Rattle.ci_http_messages.proofs.Walks.{cases, same-byte}
use Rattle.ci_http_messages.proofs.Named.{AreRows, Gives, rows-give}
use Rattle.ci_http_messages.proofs.Firsts.{first-fit}
use Rattle.ci_http_messages.proofs.Splits.{token_rows, all_plain, first-in}

module _ {T : Type 0} where
  abbrev pub valued : RowsOf (RouteOf T) → RowsOf T
  valued rows = map (λ row. (row.0, row.1.value)) rows

  abbrev pub value_of : Option (RouteOf T) → Option T
  value_of found = option_map (λ e. e.value) found

first-value : {T : Type 0} (rs : RowsOf (RouteOf T)) (path : List ℕ) → value_of (first_fit rs path) ≡ first_fit (valued rs) path
first-value [] path = refl
first-value ((t, e) ∷ rest) path = cases (fits t path) (λ h. rw h refl) (λ h. rw h (first-value rest path))

table-sorted : sorted table ≡ true
unfolding matchit_on_literals table
table-sorted = refl

table-tidy : all_tidy table ≡ true
unfolding matchit_on_literals table
table-tidy = refl

table-pieces : valued table ≡ token_rows patterns
unfolding matchit_on_literals table patterns
table-pieces = refl

patterns-plain : all_plain patterns ≡ true
unfolding patterns
patterns-plain = refl

pub is-text : (p : List ℕ) → ((i : ℕ) → Fits w8 (get_or p i 0)) → IsText p
is-text [] h = tt
is-text (b ∷ p) h =
    let f : Fits w8 b = h 0 in
    let l : b < 256 = omega arith in
    (l, is-text p (λ i. h (suc i)))

-- each path reads well, and conflicts with none before it
pub takes_all : TakesPaths paths []
unfolding matchit_on_literals
takes_all = search rules

-- the route of a path
pub found : (path : List ℕ) → IsText path → value_of (first table path) ≡ pattern_in patterns path
found path x =
    ap value_of (first-fit (length path) table path (omega arith) table-sorted table-tidy x)
    ∙ first-value table path ∙ ap (λ r. first_fit r path) table-pieces ∙ first-in patterns path patterns-plain

table-rows : AreRows table patterns
unfolding matchit_on_literals table patterns
table-rows = search rules

-- a path with a route starts with a slash
starts : (path : List ℕ) (e : RouteOf Pattern) → value_of (Some e) ≡ pattern_in patterns path → (p : List ℕ) × (path ≡ 47 ∷ p)
starts [] e h = cc
starts (b ∷ p) e h = cases (b == 47) (λ k. (p, rw (same-byte b 47 k) refl)) (λ k. let q = rw k at h in cc)

-- the texts of a path's route
pub gives : (key path : List ℕ) (e : RouteOf Pattern) → IsText path → IsUtf8 path → first table path ≡ Some e → Gives key e path (text_in key patterns path)
gives key path e x u h =
    let w = starts path e (sym (ap value_of h) ∙ found path x) in
    let f : first_fit table path ≡ Some e = sym (first-fit (length path) table path (omega arith) table-sorted table-tidy x) ∙ h in
    let f2 = rw w.1 at f in
    let u2 = rw w.1 at u in
    rw w.1 (rows-give key table patterns w.0 e table-rows u2 f2)
