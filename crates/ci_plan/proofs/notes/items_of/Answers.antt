use Rattle.std.proofs.Common.{sym, ap}
use Rattle.ci_plan.specs.Notes.{known}
use Rattle.ci_config_reader.proofs.Trees.{list_of-List}
use Rattle.ci_plan.proofs.notes.items_of.Goals as goal

pub returns-in-List : goal.returns-in-List
returns-in-List c = sym (ap known (list_of-List c.args.tree.now c.in-List.items c.as_slice.result.now c.in-List.is c.as_slice.ensures.value))
