-- Why a file gives no pipeline: the faults in the order in which they are looked for, each over all jobs.
use Rattle.std.specs.Prelude.{◌≡◌, ℕ, Bool, true, false, List, [], ◌∷◌, not, ◌&&◌, ◌||◌, if◌then◌else◌, length, Option, Some, None, Result, Ok, Err, unwrap_or, nat_lt}
use Rattle.ci_graph.specs.Lists.{number_at}
use Rattle.ci_graph.specs.Pairs.{HasCycle, IsAcyclic}
use Rattle.ci_config.specs.Config.{Text}
use Rattle.ci_config.specs.Prelude.{Need, Config, is_inner}
use Rattle.ci_graph_layout.specs.Inclusion.{Given, IncludedJob}
use Rattle.ci_graph_layout.specs.Layout.{rank, ranks, place_of, lineup, pairs}
use Rattle.ci_graph_layout.specs.declared.fault.GraphCode.{GraphCode}
use Rattle.ci_graph_layout.specs.declared.fault.GraphCode.TheVariants.{G1, G2, G3, G4, G5}
use Rattle.ci_graph_layout.specs.declared.limits.TheConstants.{MAX_NEEDS}

abbrev pub any : {A : Type 0} → (A → Bool) → List A → Bool
any p [] = false
any p (x ∷ xs) = p x || any p xs

abbrev pub needs_of : IncludedJob → List Need
needs_of i = unwrap_or i.job.needs []

-- a job that is in neither `.pre` nor `.post`
abbrev pub is_work : IncludedJob → Bool
is_work i = is_inner i.job.stage

abbrev pub needs_many : IncludedJob → Bool
needs_many i = nat_lt MAX_NEEDS (length (needs_of i))

abbrev pub is_missing : Option ℕ → Bool
is_missing None = true
is_missing (Some p) = false

-- the need isn't optional and names no included job
abbrev pub is_unmet : List IncludedJob → Need → Bool
is_unmet is n = not n.optional && is_missing (place_of is n.job)

abbrev pub lacks_need : List IncludedJob → IncludedJob → Bool
lacks_need is i = any (is_unmet is) (needs_of i)

-- the job at this position, if there is one, is of a later stage than this rank's
abbrev pub is_later : List ℕ → ℕ → Option ℕ → Bool
is_later ranks rank None = false
is_later ranks rank (Some p) = nat_lt rank (number_at ranks p)

-- the need names an included job of a later stage than this rank's
abbrev pub names_later : List Text → List IncludedJob → ℕ → Need → Bool
names_later stages is rank n = is_later (ranks stages is) rank (place_of is n.job)

abbrev pub waits_for_later : List Text → List IncludedJob → IncludedJob → Bool
waits_for_later stages is i = any (names_later stages is (rank stages i.job.stage)) (needs_of i)

-- the first fault but for that of a cycle
abbrev pub first_fault : List Text → List IncludedJob → Option GraphCode
first_fault stages is =
    if not (any is_work is) then Some G4
    else if any needs_many is then Some G5
    else if any (lacks_need is) is then Some G1
    else if any (waits_for_later stages is) is then Some G2
    else None

-- a pipeline's jobs in their order, and each predecessor with the job that waits for it
pub record Plan : Type 0 where
  pub jobs : List IncludedJob
  pub pairs : List (ℕ × ℕ)

-- what a file gives, with the variables that a pipeline brings
pub data Plans (g : Given) (c : Config) : Result Plan GraphCode → Type 0 where
  faulty : (code : GraphCode) → first_fault c.stages (lineup g c) ≡ Some code → Plans g c (Err code)
  cyclic : first_fault c.stages (lineup g c) ≡ None → HasCycle (pairs c.stages (lineup g c)) → Plans g c (Err G3)
  planned : first_fault c.stages (lineup g c) ≡ None → IsAcyclic (pairs c.stages (lineup g c)) → Plans g c (Ok (record { jobs = lineup g c; pairs = pairs c.stages (lineup g c) }))
