-- What the code found of a lineup, said of the file.
use Rattle.std.proofs.Common.{◌≡◌, ℕ, Bool, true, false, List, Some, None, Ok, Err, length, ap, sym, ◌∙◌, subst, not, if◌then◌else◌}
use Rattle.ci_graph_layout.specs.Prelude.{Text, Config, AreWithin, HasCycle, IsAcyclic, Given, IncludedJob, lineup, pairs, Plan, Plans, faulty, cyclic, planned, first_fault, any, is_work, needs_many, lacks_need, waits_for_later}
use Rattle.ci_graph_layout.specs.Prelude.{GraphCode, G3}
use Rattle.ci_graph_layout.specs.declared.fault.GraphCode.TheVariants.{G1, G2, G4, G5}
use Rattle.ci_graph_layout.proofs.Within.{pairs_within}

first_same : (g : Given) (c : Config) (stages : List Text) (jobs : List IncludedJob) → stages ≡ c.stages → jobs ≡ lineup g c → first_fault c.stages (lineup g c) ≡ first_fault stages jobs
first_same g c stages jobs e f = sym (ap (λ s. first_fault s jobs) e ∙ ap (λ js. first_fault c.stages js) f)

pairs_same : (g : Given) (c : Config) (stages : List Text) (jobs : List IncludedJob) → stages ≡ c.stages → jobs ≡ lineup g c → pairs stages jobs ≡ pairs c.stages (lineup g c)
pairs_same g c stages jobs e f = ap (λ s. pairs s jobs) e ∙ ap (λ js. pairs c.stages js) f

pub plans_fault : (g : Given) (c : Config) (stages : List Text) (jobs : List IncludedJob) (code : GraphCode) → stages ≡ c.stages → jobs ≡ lineup g c → first_fault stages jobs ≡ Some code → Plans g c (Err code)
plans_fault g c stages jobs code e f h = faulty code (first_same g c stages jobs e f ∙ h)

none_of_circle : (a b c d : Bool) → (if a then Some G4 else if b then Some G5 else if c then Some G1 else if d then Some G2 else None) ≡ Some G3 → ⊥
none_of_circle true b c d e = cc
none_of_circle false true c d e = cc
none_of_circle false false true d e = cc
none_of_circle false false false true e = cc
none_of_circle false false false false e = cc

-- the first fault isn't that of a circle
pub first_other : (stages : List Text) (jobs : List IncludedJob) → first_fault stages jobs ≡ Some G3 → ⊥
first_other stages jobs = none_of_circle (not (any is_work jobs)) (any needs_many jobs) (any (lacks_need jobs) jobs) (any (waits_for_later stages jobs) jobs)

pub pairs_found : (stages : List Text) (jobs : List IncludedJob) (found : List (ℕ × ℕ)) → found ≡ pairs stages jobs → AreWithin (length jobs) found
pairs_found stages jobs found e = subst (λ ps. AreWithin (length jobs) ps) (sym e) (pairs_within stages jobs)

pub plans_cycle : (g : Given) (c : Config) (stages : List Text) (jobs : List IncludedJob) (found : List (ℕ × ℕ)) → stages ≡ c.stages → jobs ≡ lineup g c → first_fault stages jobs ≡ None → found ≡ pairs stages jobs → HasCycle found → Plans g c (Err G3)
plans_cycle g c stages jobs found e f h same cycle =
    cyclic (first_same g c stages jobs e f ∙ h) (subst (λ ps. HasCycle ps) (same ∙ pairs_same g c stages jobs e f) cycle)

pub plans_jobs : (g : Given) (c : Config) (stages : List Text) (jobs : List IncludedJob) (found : List (ℕ × ℕ)) → stages ≡ c.stages → jobs ≡ lineup g c → first_fault stages jobs ≡ None → found ≡ pairs stages jobs → IsAcyclic found → Plans g c (Ok (record { jobs = jobs; pairs = found }))
plans_jobs g c stages jobs found e f h same acyclic =
    let all : found ≡ pairs c.stages (lineup g c) = same ∙ pairs_same g c stages jobs e f in
    let first : Plan = record { jobs = lineup g c; pairs = pairs c.stages (lineup g c) } in
    let second : Plan = record { jobs = jobs; pairs = found } in
    let plan : first ≡ second = ap (λ (js : List IncludedJob). record { jobs = js; pairs = pairs c.stages (lineup g c) }) (sym f) ∙ ap (λ (ps : List (ℕ × ℕ)). record { jobs = jobs; pairs = ps }) (sym all) in
    subst (λ p. Plans g c (Ok p)) plan (planned (first_same g c stages jobs e f ∙ h) (subst (λ ps. IsAcyclic ps) all acyclic))
