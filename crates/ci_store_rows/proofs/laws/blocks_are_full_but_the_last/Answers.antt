use Rattle.ci_store_rows.proofs.BlockLists.{joined, full, last_within, numbered, of_one, empty}
use Rattle.ci_store_rows.proofs.laws.blocks_are_full_but_the_last.Goals as goal

pub returns : goal.returns
returns c = record { joined = joined; full = full; last = last_within; numbered = numbered; of_one = of_one; empty = empty }
