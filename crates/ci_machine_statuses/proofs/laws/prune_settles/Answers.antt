use Rattle.std.proofs.Common.{refl, sym, subst}
use Rattle.ci_machine_steps.specs.Prelude.{State, without_all, numbers_of, AreBoard}
use Rattle.ci_machine_steps.proofs.Pruned.{pruned_state}
use Rattle.ci_machine_steps.proofs.Sound.{sound}
use Rattle.ci_machine_statuses.proofs.Pruning.{board_left}
use Rattle.ci_machine_statuses.proofs.laws.prune_settles.Goals as goal

pub returns : goal.returns
returns c = λ s board p is_sound are.
    let its = sound s is_sound in
    subst (λ (t : State). AreBoard t (without_all (λ r. r.job) (numbers_of s p.id) board)) (sym (pruned_state s p.id its.jobs its.attempts p refl)) (board_left s board p.id its are)
