-- Places and pairs, one job further.
use Rattle.std.proofs.Common.{◌≡◌, ◌<◌, ◌+◌, ◌++◌, ℕ, List, Some, ◌∷◌, drop, map, length, get_or, sym, ap, ◌∙◌, if◌then◌else◌}
use Rattle.std.proofs.lemmas.List.{at_drop_more}
use Rattle.std.specs.Str.{bytes_eq}
use Rattle.ci_graph_layout.specs.Prelude.{Text, IncludedJob as Meant, place_from, predecessors, pairs_from, included_view}
use Rattle.ci_graph_layout.specs.declared.inclusion.IncludedJob.{IncludedJob}

pub place_further : (jobs : List IncludedJob) (i : ℕ) (job : IncludedJob) (q : List ℕ) → i < length jobs → job ≡ get_or jobs i job
    → place_from i (map included_view (drop i jobs)) q ≡ if bytes_eq q job.job.now.name.now then Some i else place_from (i + 1) (map included_view (drop (i + 1) jobs)) q
place_further jobs i job q lt is =
    at_drop_more (λ js. place_from i (map included_view js) q) jobs i job lt
    ∙ ap (λ j. place_from i (map included_view (j ∷ drop (i + 1) jobs)) q) (sym is)

pub pairs_further : (stages : List Text) (is : List Meant) (jobs : List IncludedJob) (i : ℕ) (job : IncludedJob) → i < length jobs → job ≡ get_or jobs i job
    → pairs_from stages is i (map included_view (drop i jobs)) ≡ map (λ p. (p, i)) (predecessors stages is (included_view job)) ++ pairs_from stages is (i + 1) (map included_view (drop (i + 1) jobs))
pairs_further stages is jobs i job lt same =
    at_drop_more (λ js. pairs_from stages is i (map included_view js)) jobs i job lt
    ∙ ap (λ j. pairs_from stages is i (map included_view (j ∷ drop (i + 1) jobs))) (sym same)
