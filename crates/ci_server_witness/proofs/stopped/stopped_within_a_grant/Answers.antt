use Rattle.std.proofs.Common.{refl, []}
use Rattle.ci_server.specs.Prelude.{was_made, was_found}
use Rattle.ci_server_witness.proofs.StoppedLemmas.{names}
use Rattle.ci_server_witness.proofs.stopped.stopped_within_a_grant.Goals as goal

pub returns : goal.returns
returns g c =
    let named = names g.S.Store g.met.S.Store.settled c.no_step_is_lost.ensures.settled c.has_one_tree.ensures c.has_not_both.ensures c.reads_trees.ensures c.answers_once_without_patterns.ensures in
    record { made = named was_made refl refl; found = named (was_found []) refl refl }
