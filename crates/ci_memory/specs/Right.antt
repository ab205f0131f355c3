-- What is remembered of a store is right for what it keeps.
use Rattle.ci_machine_steps.specs.Prelude.{Kept}
use Rattle.ci_memory_boards.specs.Order.{InOrder}
use Rattle.ci_memory_boards.specs.Sheets as boards
use Rattle.ci_memory.specs.Quiet.{AreRight}
use Rattle.ci_memory_queue.specs.LineCovers as lines
use Rattle.ci_memory.specs.Alone as alone
use Rattle.ci_memory_queue.specs.Covers as queue
use Rattle.ci_memory.specs.Remembered.{Remembered}
use Rattle.ci_memory.specs.Modes.{AreModes}
use Rattle.ci_memory.specs.Newest.{AreNewest}
use Rattle.ci_memory.specs.Numbers.{AreNext}
use Rattle.ci_memory.specs.Projects.{AreProjects}
use Rattle.ci_memory.specs.Runners.{AreRunners}

pub record IsRight (m : Remembered) (k : Kept) : Type 0 where
  pub numbers : AreNext m.numbers k.state.next
  pub projects : AreProjects m.projects k.state
  pub runners : AreRunners m.runners k.state
  pub modes : AreModes m.modes k.state
  pub queue : queue.IsRight m.queue k
  pub lines : lines.IsRight m.lines k
  pub leases : AreRight m.leases k
  pub pipelines : alone.IsRight m.pipelines k
  pub newest : AreNewest m.newest k.state
  pub boards : boards.AreRight m.boards k
  -- the rows of statuses, the jobs and the attempts stand by their numbers, as those of a table do: so one that is put has its place among
  -- those that are remembered, and no two have the same number
  pub in_order : InOrder k
