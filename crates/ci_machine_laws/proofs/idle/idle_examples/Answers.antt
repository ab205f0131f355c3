use Rattle.ci_machine_laws.proofs.Prelude.{ℕ, false, List, [], ◌∷◌, codes, refl, sym, ap, inl, inr, arith, bytes_eq, false≢true, Has, contains_from_has, has_from_contains}
use Rattle.ci_machine_steps.specs.Prelude.{Live, GroupMode, OldestFirst, NewestReadyFirst, Attempt, Pending}
use Rattle.ci_machine_laws.specs.Examples.{leased}
use Rattle.ci_machine_laws.specs.ActExamples.{its_pipeline, tried}
use Rattle.ci_machine_laws.specs.WaitingExamples.{some_runner, ship}
use Rattle.ci_machine_laws.specs.ModeExamples.{of_ref, prod_in, three, third_is, third_tried}
use Rattle.ci_machine_laws.specs.NoJob.{HasGroup, MustWait, IsNotFor}
use Rattle.ci_machine_laws.specs.NoJob as why
use Rattle.ci_machine_laws.proofs.idle.idle_examples.Goals as goal

-- a job of the three has the group `prod` of the project 1
in_group : (n : ℕ) (name : List ℕ) (modes : List GroupMode) (attempts : List Attempt) → Has (ship false n) (three modes attempts).jobs → Has (of_ref n name) (three modes attempts).pipelines → HasGroup (three modes attempts) 1 (codes "prod") (ship false n)
in_group n name modes attempts job pipeline = record {
  is_job = contains_from_has (ship false n) (three modes attempts).jobs job;
  its_group = refl;
  of_project = (of_ref n name, contains_from_has (of_ref n name) (three modes attempts).pipelines pipeline, refl, refl);
}

first_in : (modes : List GroupMode) (attempts : List Attempt) → HasGroup (three modes attempts) 1 (codes "prod") (ship false 1)
first_in modes attempts = in_group 1 (codes "a") modes attempts (inl refl) (inl refl)

second_in : (modes : List GroupMode) → HasGroup (three modes []) 1 (codes "prod") (ship false 2)
second_in modes = in_group 2 (codes "b") modes [] (inr (inl refl)) (inr (inl refl))

pub returns-clause-lacks_tag : goal.returns-clause-lacks_tag
returns-clause-lacks_tag c =
    why.lacks_tag (codes "arm") (contains_from_has (codes "arm") (codes "linux" ∷ codes "arm" ∷ []) (inr (inl refl)))
    (λ k. lacks (has_from_contains (codes "arm") (codes "linux" ∷ []) k))
  where
    lacks : Has (codes "arm") (codes "linux" ∷ []) → ⊥
    lacks (inl e) = false≢true (ap (λ (tag : List ℕ). bytes_eq tag (codes "linux")) e)
    lacks (inr k) = k

pub returns-clause-other_project : goal.returns-clause-other_project
returns-clause-other_project c = why.of_other 2 1 refl (its_pipeline, contains_from_has its_pipeline leased.pipelines (inl refl), refl, refl) (λ e. omega (arith, e))

pub returns-clause-held : goal.returns-clause-held
returns-clause-held c =
    let attempts = third_tried Live in
    why.waits 1 (codes "prod") (first_in [] attempts) (why.held (ship false 3) (tried 1 3 Live) (in_group 3 (codes "c") [] attempts (inr (inr (inl refl))) (inr (inr (inl refl)))) (contains_from_has (tried 1 3 Live) attempts (inl refl)) refl refl)

pub returns-clause-newest_first : goal.returns-clause-newest_first
returns-clause-newest_first c =
    let modes = prod_in 1 NewestReadyFirst in
    why.waits 1 (codes "prod") (first_in modes []) (why.newer_first (ship false 2) (second_in modes) refl (omega arith) refl)

pub returns-clause-oldest_first : goal.returns-clause-oldest_first
returns-clause-oldest_first c =
    let modes = prod_in 1 OldestFirst in
    why.waits 1 (codes "prod") (second_in modes) (why.older_first (ship false 1) (first_in modes []) refl (omega arith) (inr refl))

pub returns-clause-unordered : goal.returns-clause-unordered
returns-clause-unordered c = λ not. none not
  where
    none_held : (project : ℕ) (group : List ℕ) (pipeline : ℕ) → MustWait (three [] []) (third_is Pending) project group pipeline → ⊥
    none_held project group pipeline (why.held other a its has same live) = has_from_contains a [] has
    none_held project group pipeline (why.older_first other its mode older some) = absurd (cc)
    none_held project group pipeline (why.newer_first other its mode newer is) = absurd (cc)

    none : IsNotFor (three [] []) (third_is Pending) some_runner (ship false 1) → ⊥
    none (why.paused e) = false≢true e
    none (why.of_other own project e of other) = absurd (cc)
    none (why.untagged e f) = false≢true (sym f)
    none (why.lacks_tag tag has lacks) = has_from_contains tag [] has
    none (why.waits project group its wait) = none_held project group 1 wait
