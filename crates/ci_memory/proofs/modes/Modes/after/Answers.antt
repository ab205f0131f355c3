use Rattle.std.proofs.Common.{sym, ◌∙◌}
use Rattle.ci_machine_steps.specs.Prelude.{applied}
use Rattle.ci_memory.specs.declared.modes.Modes.{Modes}
use Rattle.ci_memory.specs.declared.modes.Modes.TheVariants.{Unknown, Many, All}
use Rattle.ci_memory.specs.Modes.{AreModes}
use Rattle.ci_memory.proofs.Changes.{all_modes_stay}
use Rattle.ci_memory.proofs.modes.Modes.after.Goals as goal

pub returns : goal.returns
returns c s are = go c.args.self are
  where
    go : (m : Modes) → AreModes m s → AreModes m (applied c.args.changes.now s)
    go Unknown is = tt
    go Many is = tt
    go (All modes) is = is ∙ sym (all_modes_stay c.args.changes.now s (sym c.has_mode.ensures ∙ c.if-has_mode.false))
