-- A text that selects commits nothing and does not read the time, whatever the schema.
use Rattle.std.proofs.Common.{◌≡◌, ◌∙◌, Bool, true, false, ◌&&◌, ℕ, ◌+◌, ◌%◌, List, [], ◌∷◌, length, Option, None, Ok, Err, refl, sym, ap, cond}
use Rattle.sqlite_syntax.specs.declared.statement.Parsed.{Parsed}
use Rattle.sqlite_ast.specs.declared.Statement.{Statement}
use Rattle.sqlite_ast.specs.declared.Statement.TheVariants as written
use Rattle.sqlite_schema.specs.declared.schema.Schema.{Schema}
use Rattle.sqlite_schema.specs.declared.command.Command.{Command}
use Rattle.ci_store.specs.Prelude.{Returning, Compiled, NoSuchTable, Checked, and_then, compiled, planned, meaning, returning, first, with_command, command, IsPlain, understood}
use Rattle.ci_store.specs.Prelude.{reads_listing, listing_schema, if_select, is_select}
use Rattle.sqlite_resolve.specs.Compile.{timed}

abbrev pub is_selection : Statement → Bool
is_selection (written.Select s) = true
is_selection _ = false

abbrev pub is_bare : List (List ℕ) → Bool
is_bare [] = true
is_bare _ = false

-- The text is parsed as a SELECT; of a text that is written out `refl` finds it, under `unfolding first everything`.
abbrev pub is_selecting : Checked Parsed → Bool
is_selecting (Ok p) = is_selection p.statement && is_bare p.formats
is_selecting (Err e) = false

nothing_returned : (schema : Schema) (base : ℕ) (s : Statement) → is_selection s ≡ true → returning schema base s ≡ Ok None
unfolding returning
nothing_returned schema base (written.Select s) is = refl
nothing_returned schema base _ is = absurd cc

as_written : (schema : Schema) (formats : List (List ℕ)) (s : Statement) → is_selection s ≡ true → timed schema formats s ≡ formats
unfolding timed
as_written schema formats (written.Select s) is = refl
as_written schema formats _ is = absurd cc

no_formats : (b : Bool) (formats : List (List ℕ)) → (b && is_bare formats) ≡ true → (b ≡ true) × (formats ≡ [])
no_formats true [] is = (refl, refl)
no_formats false formats is = absurd cc
no_formats true (x ∷ xs) is = absurd cc

plan_of : (p : Parsed) (formats : List (List ℕ)) (shown : Checked (Option Returning)) (made : Checked Command) (c : Compiled) → shown ≡ Ok None → formats ≡ []
    → and_then (and_then (and_then shown (λ shown. and_then made (λ c. Ok (c, shown)))) (λ found. Ok (formats, found))) (λ plan. Ok (with_command p plan)) ≡ Ok c
    → (c.returning ≡ None) × (c.formats ≡ [])
plan_of p formats (Err e) made c none empty is = absurd cc
plan_of p formats (Ok shown) (Err e) c none empty is = absurd cc
plan_of p formats (Ok shown) (Ok made) c none empty is =
    let same : with_command p (formats, (made, shown)) ≡ c = cc in
    let nothing : shown ≡ None = cc in
    (sym (ap (λ (c : Compiled). c.returning) same) ∙ nothing, sym (ap (λ (c : Compiled). c.formats) same) ∙ empty)

planned_plain : (schema : Schema) (p : Parsed) (c : Compiled) → is_selecting (Ok p) ≡ true → and_then (planned schema p) (λ plan. Ok (with_command p plan)) ≡ Ok c → (c.returning ≡ None) × (c.formats ≡ [])
unfolding planned meaning
planned_plain schema p c selects is =
    let parts = no_formats (is_selection p.statement) p.formats selects in
    let formats = timed schema p.formats p.statement in
    let base = length p.names % 65536 + length formats % 65536 in
    plan_of p formats (returning schema base p.statement) (command schema p.formats base p.statement) c (nothing_returned schema base p.statement parts.0) (as_written schema p.formats p.statement parts.0 ∙ parts.1) is

compiled_plain : (schema : Schema) (text : List ℕ) (c : Compiled) → is_selecting (first text) ≡ true → compiled schema text ≡ Ok c → (c.returning ≡ None) × (c.formats ≡ [])
unfolding compiled
compiled_plain schema text c = go (first text)
  where
    go : (r : Checked Parsed) → is_selecting r ≡ true → and_then r (λ p. and_then (planned schema p) (λ plan. Ok (with_command p plan))) ≡ Ok c → (c.returning ≡ None) × (c.formats ≡ [])
    go (Ok p) selects is = planned_plain schema p c selects is
    go (Err e) selects is = absurd cc

chosen : (b : Bool) (r : Checked Compiled) (c : Compiled) → cond b r (Err NoSuchTable) ≡ Ok c → r ≡ Ok c
chosen true r c is = is
chosen false r c is = absurd cc

of_select : (r : Checked Compiled) (c : Compiled) → if_select r ≡ Ok c → r ≡ Ok c
of_select (Err e) c is = absurd cc
of_select (Ok x) c is = chosen (is_select x.command) (Ok x) c is

understood_plain : (schema : Schema) (text : List ℕ) (c : Compiled) → is_selecting (first text) ≡ true → understood schema text ≡ Ok c → (c.returning ≡ None) × (c.formats ≡ [])
unfolding understood
understood_plain schema text c selects = go (reads_listing schema text)
  where
    go : (b : Bool) → cond b (if_select (compiled listing_schema text)) (compiled schema text) ≡ Ok c → (c.returning ≡ None) × (c.formats ≡ [])
    go true is = compiled_plain listing_schema text c selects (of_select _ c is)
    go false is = compiled_plain schema text c selects is

pub plain_under : (text : List ℕ) → is_selecting (first text) ≡ true → (schema : Schema) (c : Compiled) → understood schema text ≡ Ok c → IsPlain (Ok c)
plain_under text selects schema c is = understood_plain schema text c selects is
