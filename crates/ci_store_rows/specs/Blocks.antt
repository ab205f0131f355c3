-- A trace as rows: blocks of 16,384 bytes, from 0 on, of which the last has what is left. An empty trace has none.
use Rattle.std.specs.Prelude.{◌≡◌, ◌<◌, ◌≤◌, ℕ, ◌+◌, ◌-◌, ◌*◌, ◌/◌, ◌%◌, List, length, map, take, drop, ◌++◌, Option, None}
use Rattle.std.specs.List.{flat_map, range_with_len, last_or}
use Rattle.ci_store.specs.Prelude.{Trace}
use Rattle.ci_store_rows.specs.declared.block.Block.{Block}
use Rattle.ci_store_rows.specs.declared.block.TheConstants.{BLOCK_BYTES}

-- the bytes of the block at a place of the trace, from 0
abbrev pub block_at : List ℕ → ℕ → List ℕ
block_at bytes seq = take BLOCK_BYTES (drop (seq * BLOCK_BYTES) bytes)

-- how many blocks so many bytes have
abbrev pub block_count : ℕ → ℕ
block_count size = (size + (BLOCK_BYTES - 1)) / BLOCK_BYTES

-- the blocks of a trace, in order
abbrev pub blocks_of : Trace → List Block
blocks_of t = map (λ seq. record { attempt = t.attempt; seq = seq; bytes = block_at t.bytes seq }) (range_with_len 0 (block_count (length t.bytes)))

-- how many bytes each has
abbrev pub block_sizes : Trace → List ℕ
block_sizes t = map (λ b. length b.bytes) (blocks_of t)

-- the blocks of all traces: by the attempt, and of one by their place
abbrev pub all_blocks : List Trace → List Block
all_blocks traces = flat_map blocks_of traces

abbrev pub last_block : Trace → Option Block
last_block t = last_or None (blocks_of t)

-- bytes behind a trace stay within the block at this place, where it ends: that block has these bytes then
pub record StaysWithin (trace bytes : List ℕ) (seq : ℕ) (block : List ℕ) : Type 0 where
  pub some : 0 < length bytes
  pub place : seq ≡ length trace / BLOCK_BYTES
  pub fits : length trace % BLOCK_BYTES + length bytes ≤ BLOCK_BYTES
  pub is : block ≡ block_at trace seq ++ bytes
