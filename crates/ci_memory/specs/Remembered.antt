-- What is remembered of a store, in its parts.
use Rattle.std.specs.Prelude.{Option}
use Rattle.ci_memory_boards.specs.declared.boards.Boards.{Boards}
use Rattle.ci_memory.specs.declared.leases.Leases.{Leases}
use Rattle.ci_memory_queue.specs.declared.lines.Lines.{Lines}
use Rattle.ci_memory.specs.declared.pipelines.open.Open.{Open}
use Rattle.ci_memory_queue.specs.declared.queue.Queue.{Queue}
use Rattle.ci_memory.specs.declared.modes.Modes.{Modes}
use Rattle.ci_memory.specs.declared.newest.Newest.{Newest}
use Rattle.ci_memory.specs.declared.numbers.NextNumbers.{NextNumbers}
use Rattle.ci_memory.specs.declared.projects.Projects.{Projects}
use Rattle.ci_memory.specs.declared.runners.Runners.{Runners}

pub record Remembered : Type 0 where
  pub numbers : NextNumbers
  pub projects : Projects
  pub runners : Runners
  pub modes : Modes
  pub queue : Option Queue
  pub lines : Option Lines
  pub leases : Leases
  pub pipelines : Option Open
  pub newest : Newest
  pub boards : Boards
