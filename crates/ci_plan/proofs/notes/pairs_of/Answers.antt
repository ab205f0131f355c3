use Rattle.std.proofs.Common.{sym, ap}
use Rattle.ci_plan.specs.Notes.{known}
use Rattle.ci_config_reader.proofs.Trees.{map_of-Map}
use Rattle.ci_plan.proofs.notes.pairs_of.Goals as goal

pub returns-in-Map : goal.returns-in-Map
returns-in-Map c = sym (ap known (map_of-Map c.args.tree.now c.in-Map.pairs c.as_slice.result.now c.in-Map.is c.as_slice.ensures.value))
