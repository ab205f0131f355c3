-- For which groups a pipeline's jobs must wait, by what is looked up and by how the groups of the state stand.
use Rattle.std.proofs.Common.{◌≡◌, ℕ, ◌+◌, ◌<◌, ◌&&◌, ◌==◌, not, Bool, true, false, List, [], ◌∷◌, ◌++◌, length, take, map, flat_map, Option, Some, None, slice_index_or, refl, sym}
use Rattle.std.proofs.Common.{ap, subst, ◌∙◌, inl, ⊎_elim, eq-eqb}
use Rattle.std.specs.List.{list_any}
use Rattle.std.specs.Str.{bytes_eq}
use Rattle.std.proofs.lemmas.Bool.{and_parts}
use Rattle.std.proofs.lemmas.List.{take_more, flat_map_more, append_assoc}
use Rattle.std.proofs.lemmas.Slice.Eq.{bytes_eq-Decides}
use Rattle.ci_machine_steps.specs.Prelude.{Claim, Holder, Job, holds, claims_group, is_free, Groups, order_of, is_behind, held_claim, claims_ahead, claims_on}
use Rattle.ci_machine.proofs.Claims.{free_append, free_held, free_ahead}
use Rattle.ci_machine.proofs.Keyed.{Has, has_from_all, All-from_has}
use Rattle.ci_machine.proofs.Tests.{any_has, has_any, any_joined}
use Rattle.ci_server_lookups.specs.Prelude.{is_unheld, HoldAlike, FreeAlike, claim_if, ahead_for}
use Rattle.ci_machine_steps.proofs.Behind.{flat_has}
use Rattle.ci_server_lookups.proofs.OpenRows.{same_test}

-- ---- of one group

unheld_is : (hs : List Holder) (project : ℕ) (group : Option (List ℕ)) → is_free (map held_claim hs) project group ≡ is_unheld hs project group
unheld_is hs project None = refl
unheld_is hs project (Some group) = free_held hs project group

-- a group is free where none holds it, and none goes first in it
pub free_is : (g : Groups) (n project : ℕ) (group : Option (List ℕ)) → is_free (claims_on g n) project group ≡ (is_unheld g.holders project group && is_free (claims_ahead g n) project group)
free_is g n project group =
    free_append (map held_claim g.holders) (claims_ahead g n) project group ∙ ap (λ b. b && is_free (claims_ahead g n) project group) (unheld_is g.holders project group)

-- where it is held it isn't free
pub not_free : (g : Groups) (n project : ℕ) (group : List ℕ) → list_any (holds project group) g.holders ≡ true → false ≡ is_free (claims_on g n) project (Some group)
not_free g n project group e = sym (free_is g n project (Some group) ∙ ap (λ b. not b && is_free (claims_ahead g n) project (Some group)) e)

-- where it isn't held it is free unless another goes first
pub free_unless : (g : Groups) (n project : ℕ) (group : List ℕ) (behind : Bool) → list_any (holds project group) g.holders ≡ false
    → behind ≡ is_behind (order_of g.modes project group) g.waiting project n group → not behind ≡ is_free (claims_on g n) project (Some group)
free_unless g n project group behind e is =
    ap not is
    ∙ (sym (free_ahead g n project group)
    ∙ sym (free_is g n project (Some group) ∙ ap (λ b. not b && is_free (claims_ahead g n) project (Some group)) e))

-- ---- of jobs

module _ (g : Groups) (n project : ℕ) where
  abbrev behind : List ℕ → Bool
  behind group = is_behind (order_of g.modes project group) g.waiting project n group

  abbrev claim : List ℕ → Claim
  claim group = record { project = project; group = group }

  own_claim : (group : List ℕ) → claims_group project group (claim group) ≡ true
  own_claim group = ap (λ b. b && bytes_eq group group) (eq-eqb project project refl) ∙ (bytes_eq-Decides group group).1 refl

  abbrev for_job : Job → List Claim
  for_job j = ahead_for g project n j.options.resource_group

  -- a claim on a group that was found for a group is one on that, in which others go first
  found_behind : (own : Option (List ℕ)) (group : List ℕ) (c : Claim) → Has c (ahead_for g project n own) → claims_group project group c ≡ true → behind group ≡ true
  found_behind None group c k e = absurd k
  found_behind (Some own) group c k e = by (behind own) refl k
    where
      by : (b : Bool) → behind own ≡ b → Has c (claim_if b project own) → behind group ≡ true
      by false is m = absurd m
      by true is m =
          ⊎_elim
          (λ same.
          let both = and_parts (project == project) (bytes_eq own group) (sym (ap (claims_group project group) same) ∙ e) in
          let is_group : own ≡ group = (bytes_eq-Decides own group).0 both.1 in
          subst (λ (w : List ℕ). behind w ≡ true) is_group is)
          (λ none. absurd none) m

  behind_found : (own : Option (List ℕ)) (group : List ℕ) → own ≡ Some group → behind group ≡ true → Has (claim group) (ahead_for g project n own)
  behind_found own group its e =
      subst (λ (o : Option (List ℕ)). Has (claim group) (ahead_for g project n o)) (sym its)
      (subst (λ (b : Bool). Has (claim group) (claim_if b project group)) (sym e) (inl refl))

  module _ (jobs : List Job) where
    abbrev gathered : List Claim
    gathered = flat_map for_job jobs

    alike_for : (j : Job) (group : Option (List ℕ)) → Has j jobs → j.options.resource_group ≡ group → is_free gathered project group ≡ is_free (claims_ahead g n) project group
    alike_for j None k its = refl
    alike_for j (Some group) k its =
        let claims = claims_group project group in
        ap not (same_test (list_any claims gathered) (behind group)
        (λ e.
        let from = any_has (λ i. list_any claims (for_job i)) jobs (any_joined claims for_job jobs ∙ e) in
        let w = any_has claims (for_job from.0) from.1.1 in
        found_behind from.0.options.resource_group group w.0 w.1.0 w.1.1)
        (λ e. has_any claims (claim group) gathered (flat_has for_job (claim group) j jobs k (behind_found j.options.resource_group group its e)) (own_claim group)))
        ∙ sym (free_ahead g n project group)

    pub gathered_ahead : FreeAlike gathered (claims_ahead g n) project jobs
    gathered_ahead = All-from_has _ jobs (λ j k. alike_for j j.options.resource_group k refl)

-- the claims that are found for jobs, one after the other
abbrev pub ahead_in : Groups → ℕ → ℕ → List Job → List Claim
ahead_in g project n jobs = flat_map (λ j. ahead_for g project n j.options.resource_group) jobs

pub ahead_more : (g : Groups) (project n : ℕ) (jobs : List Job) (i : ℕ) (j : Job) (found next : List Claim) → i < length jobs → j ≡ slice_index_or jobs i j
    → found ≡ ahead_in g project n (take i jobs) → next ≡ found ++ ahead_for g project n j.options.resource_group → next ≡ ahead_in g project n (take (i + 1) jobs)
ahead_more g project n jobs i j found next within at before more =
    let f : Job → List Claim = λ j. ahead_for g project n j.options.resource_group in
    more
    ∙ (ap (λ (cs : List Claim). cs ++ f j) before
    ∙ (flat_map_more f [] (take i jobs) j
    ∙ ap (flat_map f) (ap (λ (x : Job). take i jobs ++ x ∷ []) at ∙ sym (take_more jobs i j within))))

pub ahead_alike : (g : Groups) (project n : ℕ) (jobs : List Job) (found : List Claim) → found ≡ ahead_in g project n jobs → FreeAlike found (claims_ahead g n) project jobs
ahead_alike g project n jobs found same = subst (λ (cs : List Claim). FreeAlike cs (claims_ahead g n) project jobs) (sym same) (gathered_ahead g n project jobs)

-- ---- copies

-- one more is copied behind what is there
pub copied_more : {A : Type 0} (base xs : List A) (i : ℕ) (x copy : A) (done next : List A) → i < length xs → x ≡ slice_index_or xs i x → copy ≡ x → done ≡ base ++ take i xs → next ≡ done ++ copy ∷ [] → next ≡ base ++ take (i + 1) xs
copied_more base xs i x copy done next within at same before pushed =
    pushed
    ∙ ((λ k. before k ++ same k ∷ [])
    ∙ (append_assoc base (take i xs) (x ∷ [])
    ∙ ap (λ ys. base ++ ys) (ap (λ y. take i xs ++ y ∷ []) at ∙ sym (take_more xs i x within))))

-- ---- both together

-- who holds and who goes first, each as it was found, are all claims
pub with_alike : (g : Groups) (n project : ℕ) (jobs : List Job) (held : List Holder) (ahead : List Claim) → HoldAlike held g.holders project jobs → FreeAlike ahead (claims_ahead g n) project jobs
    → FreeAlike (map held_claim held ++ ahead) (claims_on g n) project jobs
with_alike g n project jobs held ahead hold free =
    All-from_has _ jobs (λ j k.
    let group = j.options.resource_group in
    let one = has_from_all (λ (i : Job). is_unheld held project i.options.resource_group ≡ is_unheld g.holders project i.options.resource_group) j jobs hold k in
    let two = has_from_all (λ (i : Job). is_free ahead project i.options.resource_group ≡ is_free (claims_ahead g n) project i.options.resource_group) j jobs free k in
    free_append (map held_claim held) ahead project group
    ∙ ((λ i. unheld_is held project group i && is_free ahead project group)
    ∙ ((λ i. one i && two i)
    ∙ sym (free_is g n project group))))
