use Rattle.std.proofs.Common.{Some, map, refl, sym, ap, ◌∙◌}
use Rattle.std.proofs.lemmas.List.{map_push}
use Rattle.ci_server_events.proofs.Further.{pushed_further}
use Rattle.ci_server_lookups.proofs.Loading.{both_yield}
use Rattle.ci_server_events.specs.Told.{row_told}
use Rattle.ci_server_events.proofs.overview.queue.told_of.Goals as goal

-- the job of the next row is told behind those before it
pub loop-row-preserved : goal.loop-row-preserved
loop-row-preserved g c =
    both_yield refl c.in_ok-one.was c.loop-row.invariant c.row_of.ensures
    (λ k before one kept. pushed_further (row_told k.state k.board) _ _ _ c.loop-row-test.true (ap (map (λ x. Some x)) c.in_ok-push.ensures.items ∙ map_push (λ x. Some x) _ _) (sym (one kept)) (before kept))
