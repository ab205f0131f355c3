use Rattle.std.proofs.Common.{◌≡◌, ℕ, Bool, Result, Ok, Some, None, true, false, cond, not, Option, is_some, refl, sym, ap, ◌∙◌}
use Rattle.std.specs.List.{list_any}
use Rattle.ci_machine_steps.specs.Prelude.{Pipeline, Kept, is_newer_of, newer_in, pipeline_at}
use Rattle.ci_server_lookups.specs.Prelude.{StoreFault, IsKept}
use Rattle.ci_store.specs.Prelude.{LoadsBy}
use Rattle.ci_server_lookups.proofs.Loading.{so}
use Rattle.ci_server_lookups.proofs.Holds.{any_if_some}
use Rattle.ci_memory.specs.Looks.{IsSeen}
use Rattle.ci_memory.specs.Redundant.{is_held_back}
use Rattle.ci_memory.specs.declared.pipelines.redundant.Seen.TheVariants.{Suspect}
use Rattle.ci_memory.proofs.Supersedes.{superseded_by}
use Rattle.ci_memory.proofs.pipelines.redundant.look_at.Goals as goal

none_if : {A : Type 0} (o : Option A) → is_some o ≡ false → o ≡ None
none_if None e = refl
none_if (Some x) e = absurd (cc)

-- there is no newer one
pub returns-then-is_none : goal.returns-then-is_none
returns-then-is_none g c =
    let newer = c.in_ok-newer_of.field-0 in
    so g.T.Store.honest g.T.Store.holds g.T.Store.leaves _ _ _ _ c.pipeline.result _ c.newer_of.result newer _ c.in_ok-pipeline.was c.in_ok-newer_of.was c.pipeline.ensures c.newer_of.ensures
    (λ k at found. (sym at ∙ c.in-Some.is, sym found ∙ none_if newer (c.is_none.ensures ∙ ap not c.if-is_none.true)))

-- there is one, and it is looked up whether a job holds the pipeline back
with_newer : {T : Type 0} (honest : T → Type 0) (holds : T → Kept → Type 0) (leaves : T → Kept → Kept → Type 0) (a b c d : T) (number : ℕ) (pipeline : Pipeline) (found : Result (Option Pipeline) StoreFault) (its : Option Pipeline)
    (second : Result (Option Pipeline) StoreFault) (newer : Option Pipeline) (last : Result Bool StoreFault) (held is_held : Bool)
    → found ≡ Ok its → second ≡ Ok newer → last ≡ Ok held → its ≡ Some pipeline → is_some newer ≡ true → held ≡ is_held
    → LoadsBy honest holds leaves a b found (λ k p. p ≡ pipeline_at k.state number) → LoadsBy honest holds leaves b c second (λ k p. p ≡ newer_in k.state pipeline)
    → LoadsBy honest holds leaves c d last (λ k h. IsKept k → h ≡ is_held_back k.state pipeline)
    → LoadsBy honest holds leaves a d (Ok (Suspect (cond (not is_held) (Some pipeline) None))) (λ k seen. IsSeen k number seen)
with_newer honest holds leaves a b c d number pipeline found its second newer last held is_held was was_newer was_held is there so_held load more back =
    so honest holds leaves {A = Unit {0}} _ _ _ _ (Ok tt) tt last held _ refl was_held
    (so honest holds leaves (λ k (u : Unit {0}). (Some pipeline ≡ pipeline_at k.state number) × (list_any (is_newer_of pipeline) k.state.pipelines ≡ true)) _ _ _ found its second newer tt was was_newer load more
    (λ k at newest. (sym is ∙ at, sym (any_if_some (is_newer_of pipeline) k.state.pipelines newer newest) ∙ there)))
    back
    (λ k known of kept. sym (superseded_by k.state number pipeline true is_held known.0 known.1 (sym (of kept) ∙ so_held)))

-- one does
pub returns-then-branch : goal.returns-then-branch
returns-then-branch g c =
    with_newer g.T.Store.honest g.T.Store.holds g.T.Store.leaves _ _ _ _ c.args.number c.in-Some.pipeline c.pipeline.result _ c.newer_of.result c.in_ok-newer_of.field-0 c.is_held_back.result c.in_ok-is_held_back.field-0 true
    c.in_ok-pipeline.was c.in_ok-newer_of.was c.in_ok-is_held_back.was c.in-Some.is (c.is_none.ensures ∙ ap not c.if-is_none.false) c.if-branch.true c.pipeline.ensures c.newer_of.ensures c.is_held_back.ensures

-- none does
pub returns : goal.returns
returns g c =
    with_newer g.T.Store.honest g.T.Store.holds g.T.Store.leaves _ _ _ _ c.args.number c.in-Some.pipeline c.pipeline.result _ c.newer_of.result c.in_ok-newer_of.field-0 c.is_held_back.result c.in_ok-is_held_back.field-0 false
    c.in_ok-pipeline.was c.in_ok-newer_of.was c.in_ok-is_held_back.was c.in-Some.is (c.is_none.ensures ∙ ap not c.if-is_none.false) c.if-branch.false c.pipeline.ensures c.newer_of.ensures c.is_held_back.ensures
