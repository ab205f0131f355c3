use Rattle.std.proofs.Common.{◌≡◌, List, map, ap, ◌∙◌, flat_map}
use Rattle.ci_expr.proofs.Answering.{answered_each}
use Rattle.ci_graph_layout.specs.Prelude.{words_view, config_view, job_looks, Text, Decided, decided, by_stage, given_view, decided_view}
use Rattle.ci_graph_layout.specs.declared.inclusion.Decided as rust
use Rattle.ci_graph_layout.proofs.places.Lineup.new.Goals as goal

pub decide_all-requires : goal.decide_all-requires
decide_all-requires c = answered_each c.args.answers.now (flat_map (job_looks (given_view c.args.given.now) c.args.config.now) c.args.config.now.jobs.items) c.requires

pub returns-clause-lineup : goal.returns-clause-lineup
returns-clause-lineup c =
    let g = given_view c.args.given.now in
    let k = config_view c.args.config.now in
    let stages : words_view c.as_slice-stages.result.now ≡ (config_view c.args.config.now).stages = ap words_view c.as_slice-stages.ensures.value in
    record {
      stages = stages;
      jobs = c.in_ok-jobs.ensures
          ∙ ap (λ (ds : List rust.Decided). by_stage (map decided_view ds) (words_view c.as_slice-stages.result.now)) c.deref.ensures.value
          ∙ ap (λ (ds : List Decided). by_stage ds (words_view c.as_slice-stages.result.now)) c.in_ok-decided.ensures
          ∙ ap (λ (ss : List Text). by_stage (decided g k) ss) stages;
      decided = c.in_ok-decided.ensures;
    }
