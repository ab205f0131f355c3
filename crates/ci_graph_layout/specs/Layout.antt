-- In which order the jobs of a pipeline stand, and which of them waits for which. A job is a position in that order, from 0 on.
use Rattle.std.specs.Prelude.{ℕ, suc, ◌+◌, Bool, List, [], ◌∷◌, ◌++◌, if◌then◌else◌, filter, map, Option, Some, None, nat_lt}
use Rattle.std.specs.Str.{bytes_eq}
use Rattle.ci_config.specs.Config.{Text}
use Rattle.ci_config.specs.Prelude.{Need, Config}
use Rattle.ci_graph_layout.specs.Inclusion.{Given, Decided, IncludedJob, by_rules, decided}

-- ---- the order

-- what is there, before these
abbrev pub put : {A : Type 0} → Option A → List A → List A
put None xs = xs
put (Some x) xs = x ∷ xs

-- the included jobs of these, in their order
abbrev pub all_included : List Decided → List IncludedJob
all_included [] = []
all_included (d ∷ ds) = put (by_rules d.job d.decision) (all_included ds)

abbrev pub is_of : Text → Decided → Bool
is_of stage d = bytes_eq d.job.stage stage

-- stage by stage, and in each stage in their order
abbrev pub by_stage : List Decided → List Text → List IncludedJob
by_stage ds [] = []
by_stage ds (stage ∷ stages) = all_included (filter (is_of stage) ds) ++ by_stage ds stages

abbrev pub lineup : Given → Config → List IncludedJob
lineup g c = by_stage (decided g c) c.stages

-- ---- who waits for whom

-- the place of a stage among the stages
abbrev pub rank : List Text → Text → ℕ
rank [] stage = 0
rank (s ∷ stages) stage = if bytes_eq s stage then 0 else suc (rank stages stage)

abbrev pub ranks : List Text → List IncludedJob → List ℕ
ranks stages is = map (λ i. rank stages i.job.stage) is

-- the positions, from k on, of what is below a rank
abbrev pub below : ℕ → ℕ → List ℕ → List ℕ
below rank k [] = []
below rank k (r ∷ rs) = if nat_lt r rank then k ∷ below rank (k + 1) rs else below rank (k + 1) rs

-- where the first job of this name stands, from k on
abbrev pub place_from : ℕ → List IncludedJob → Text → Option ℕ
place_from k [] name = None
place_from k (i ∷ is) name = if bytes_eq name i.job.name then Some k else place_from (k + 1) is name

abbrev pub place_of : List IncludedJob → Text → Option ℕ
place_of is name = place_from 0 is name

-- where those stand that its needs name, if they are included, in the needs' order
abbrev pub needed : List IncludedJob → List Need → List ℕ
needed is [] = []
needed is (n ∷ ns) = put (place_of is n.job) (needed is ns)

abbrev pub by_needs : List IncludedJob → List ℕ → Option (List Need) → List ℕ
by_needs is earlier None = earlier
by_needs is earlier (Some ns) = needed is ns

-- A job that gives needs waits for those of them that are included, and any other for all jobs of earlier stages.
abbrev pub predecessors : List Text → List IncludedJob → IncludedJob → List ℕ
predecessors stages is j = by_needs is (below (rank stages j.job.stage) 0 (ranks stages is)) j.job.needs

abbrev pub pairs_from : List Text → List IncludedJob → ℕ → List IncludedJob → List (ℕ × ℕ)
pairs_from stages is k [] = []
pairs_from stages is k (j ∷ js) = map (λ i. (i, k)) (predecessors stages is j) ++ pairs_from stages is (k + 1) js

-- each predecessor with the job that waits for it
abbrev pub pairs : List Text → List IncludedJob → List (ℕ × ℕ)
pairs stages is = pairs_from stages is 0 is
