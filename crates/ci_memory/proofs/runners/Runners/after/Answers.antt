use Rattle.std.proofs.Common.{sym, ◌∙◌}
use Rattle.ci_machine_steps.specs.Prelude.{applied}
use Rattle.ci_memory.specs.declared.runners.Runners.{Runners}
use Rattle.ci_memory.specs.declared.runners.Runners.TheVariants.{Unknown, Many, All}
use Rattle.ci_memory.specs.Runners.{AreRunners}
use Rattle.ci_memory.proofs.Changes.{all_runners_stay}
use Rattle.ci_memory.proofs.runners.Runners.after.Goals as goal

pub returns : goal.returns
returns c s are = go c.args.self are
  where
    go : (r : Runners) → AreRunners r s → AreRunners r (applied c.args.changes.now s)
    go Unknown is = tt
    go Many is = tt
    go (All runners) is = is ∙ sym (all_runners_stay c.args.changes.now s (sym c.has_runner.ensures ∙ c.if-has_runner.false))
