use Rattle.std.proofs.Common.{◌≡◌, ℕ, ◌+◌, ◌++◌, rules, ap, sym, ◌∙◌, get_or, List, map, drop}
use Rattle.std.proofs.lemmas.List.{append_assoc}
use Rattle.ci_graph_layout.proofs.Placing.{pairs_further}
use Rattle.ci_graph_layout.specs.Prelude.{stages_of, jobs_of, predecessors, pairs_from, included_view}
use Rattle.ci_graph_layout.specs.declared.inclusion.IncludedJob.{IncludedJob}
use Rattle.ci_graph_layout.proofs.places.Lineup.pairs.Goals as goal

pub loop-i-preserved : goal.loop-i-preserved
loop-i-preserved c =
    let same : c.job-item.result ≡ get_or c.args.self.now.jobs.items c.loop-i.i c.job-item.result =
    c.job-item.is ∙ ap (λ (js : List IncludedJob). get_or js c.loop-i.i c.job-item.result) c.deref-job-items.ensures.value in
    let further = pairs_further (stages_of c.args.self.now) (jobs_of c.args.self.now) c.args.self.now.jobs.items c.loop-i.i c.job-item.result (search rules) same in
    let before = predecessors (stages_of c.args.self.now) (jobs_of c.args.self.now) (included_view c.job-item.result) in
    let rest = pairs_from (stages_of c.args.self.now) (jobs_of c.args.self.now) (c.loop-i.i + 1) (map included_view (drop (c.loop-i.i + 1) c.args.self.now.jobs.items)) in
    let of : List ℕ → List (ℕ × ℕ) = map (λ p. (p, c.loop-i.i)) in
    ap (λ (ps : List (ℕ × ℕ)). ps ++ rest) (c.in_ok-put_pairs.ensures ∙ ap (λ (ps : List ℕ). c.loop-i.found.items ++ of ps) (c.deref.ensures.value ∙ c.in_ok-places.ensures))
    ∙ append_assoc c.loop-i.found.items (of before) rest
    ∙ ap (λ (ps : List (ℕ × ℕ)). c.loop-i.found.items ++ ps) (sym further)
    ∙ c.loop-i.invariant
