use Rattle.ci_config_reader.proofs.Trees.{list_of-List}
use Rattle.ci_config_reader.proofs.tree.list_of.Goals as goal

pub returns-in-List : goal.returns-in-List
returns-in-List c = list_of-List c.args.tree.now c.in-List.items c.as_slice.result.now c.in-List.is c.as_slice.ensures.value
