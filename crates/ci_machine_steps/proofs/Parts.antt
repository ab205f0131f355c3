-- A part that is cloned is the same.
use Rattle.std.proofs.Common.{◌≡◌, ℕ, ◌+◌, ◌<◌, List, [], ◌∷◌, ◌++◌, length, map, take, slice_index_or, refl, sym, ap, ◌∙◌}
use Rattle.std.proofs.lemmas.List.{map_more}
use Rattle.std.proofs.lemmas.List.Elements.{same_from_all_zip}
use Rattle.ci_machine_steps.specs.Prelude.{AllowFailure, No, Yes, ExitCodes, by_variants, Job}
use Rattle.ci_machine.specs.Prelude.{Part}

same_allow : (x y : AllowFailure) → by_variants x y → y ≡ x
same_allow No No h = refl
same_allow Yes Yes h = refl
same_allow (ExitCodes xs) (ExitCodes ys) h = ap ExitCodes (same_from_all_zip (λ a b. b ≡ a) xs ys h (λ a b e. e))
same_allow No Yes h = absurd h
same_allow No (ExitCodes ys) h = absurd h
same_allow Yes No h = absurd h
same_allow Yes (ExitCodes ys) h = absurd h
same_allow (ExitCodes xs) No h = absurd h
same_allow (ExitCodes xs) Yes h = absurd h

same_part : (x y : Part) → (y.when ≡ x.when) × (by_variants x.allow_failure y.allow_failure × ((y.retry ≡ x.retry) × (y.gives_needs ≡ x.gives_needs))) → y ≡ x
same_part x y h = λ i. record { «when» = h.0 i; allow_failure = same_allow x.allow_failure y.allow_failure h.1.0 i; retry = h.1.1.0 i; gives_needs = h.1.1.1 i }

-- the clone of the next part is pushed
pub part_pushed : (jobs : List Job) (i : ℕ) (j : Job) (parts pushed : List Part) (part : Part) → i < length jobs → j ≡ slice_index_or jobs i j
    → (part.when ≡ j.options.part.when) × (by_variants j.options.part.allow_failure part.allow_failure × ((part.retry ≡ j.options.part.retry) × (part.gives_needs ≡ j.options.part.gives_needs)))
    → parts ≡ map (λ k. k.options.part) (take i jobs) → pushed ≡ parts ++ part ∷ [] → pushed ≡ map (λ k. k.options.part) (take (i + 1) jobs)
part_pushed jobs i j parts pushed part l at cloned before push =
    push
    ∙ ((λ k. before k ++ (same_part j.options.part part cloned ∙ ap (λ (w : Job). w.options.part) at) k ∷ [])
    ∙ sym (map_more (λ (w : Job). w.options.part) jobs i j l))
