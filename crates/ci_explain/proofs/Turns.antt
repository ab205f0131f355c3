-- Faults in turn: one more, and the last.
use Rattle.std.proofs.Common.{◌≡◌, ◌≢◌, ℕ, List, [], ◌∷◌, ◌++◌, length, refl, sym, ◌∙◌, ap, subst, arith, true, false, ◌==◌, Ok, Err}
use Rattle.std.proofs.lemmas.Bool.{eqb-true}
use Rattle.std.proofs.lemmas.List.{append_assoc, map-append}
use Rattle.ci_config.specs.Prelude.{Value, Config, Placed, MeansAt}
use Rattle.ci_explain.specs.Told.{InTurn, without, told_view, tolds_view}
use Rattle.ci_explain.specs.declared.place.Found.{Found}

-- what is told behind these of what is left of a tree is told behind them of the tree
abbrev pub Goes : Value → List Found → Value → Type 0
Goes w ts v = (rest : List Placed) → InTurn v rest → InTurn w (tolds_view ts ++ rest)

-- ---- a way that has no step, and one that has

pub is-empty : (xs : List ℕ) → true ≡ (length xs == 0) → xs ≡ []
is-empty [] none = refl
is-empty (x ∷ xs) none = let long = eqb-true (length (x ∷ xs)) 0 (sym none) in absurd (omega arith)

pub is-some : (xs : List ℕ) → false ≡ (length xs == 0) → xs ≢ []
is-some [] some e = absurd cc
is-some (x ∷ xs) some e = absurd cc

-- ---- lists of them

all-behind : (ts : List Found) (f : Found) (rest : List Placed) → tolds_view (ts ++ f ∷ []) ++ rest ≡ tolds_view ts ++ told_view f ∷ rest
all-behind ts f rest = ap (λ us. us ++ rest) (map-append told_view ts (f ∷ [])) ∙ append_assoc (tolds_view ts) (told_view f ∷ []) rest

none-behind : (us : List Placed) → us ++ [] ≡ us
none-behind [] = refl
none-behind (u ∷ us) = ap (λ l. u ∷ l) (none-behind us)

-- ---- one more

pub goes-on : (w v v' : Value) (ts told : List Found) (f : Found) (first : Placed) → Goes w ts v → told ≡ ts ++ f ∷ [] → MeansAt v (Err first) → told_view f ≡ first
    → false ≡ (length f.way.items == 0) → v' ≡ without f.way.items v → Goes w told v'
goes-on w v v' ts told f first goes is means same some left rest h =
    let here : InTurn v (told_view f ∷ rest) = (subst (λ t. MeansAt v (Err t)) (sym same) means, λ e. absurd (is-some f.way.items some e), λ e. subst (λ x. InTurn x rest) left h) in
    subst (λ us. InTurn w us) (sym (ap (λ l. tolds_view l ++ rest) is ∙ all-behind ts f rest)) (goes (told_view f ∷ rest) here)

-- ---- the last one

pub ends-with : (w v : Value) (ts told : List Found) (f : Found) (first : Placed) → Goes w ts v → told ≡ ts ++ f ∷ [] → MeansAt v (Err first) → told_view f ≡ first
    → f.way.items ≡ [] → InTurn w (tolds_view told)
ends-with w v ts told f first goes is means same none =
    let here : InTurn v (told_view f ∷ []) = (subst (λ t. MeansAt v (Err t)) (sym same) means, λ e. refl, λ e. absurd (e none)) in
    subst (λ us. InTurn w us) (sym (ap tolds_view is ∙ map-append told_view ts (f ∷ []))) (goes (told_view f ∷ []) here)

pub ends-well : (w v : Value) (ts : List Found) → Goes w ts v → ((c : Config) × MeansAt v (Ok c)) → InTurn w (tolds_view ts)
ends-well w v ts goes well = subst (λ us. InTurn w us) (none-behind (tolds_view ts)) (goes [] well)
