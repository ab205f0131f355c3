use Rattle.ci_store_rows.proofs.BlockLists.{sizes}
use Rattle.ci_store_rows.proofs.laws.block_examples.Goals as goal

pub returns : goal.returns
returns c = record {
  empty = λ t. sizes t 0;
  few = λ t. sizes t 5;
  one = λ t. sizes t 16384;
  one_more = λ t. sizes t 16385;
  two = λ t. sizes t 16390;
  five = λ t. sizes t 65537;
  longest = λ t. sizes t 4194304;
}
