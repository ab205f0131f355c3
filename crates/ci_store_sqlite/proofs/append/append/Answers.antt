use Rattle.std.proofs.Common.{◌<◌, rules, ◌≡◌, ◌+◌, ◌*◌, ◌∙◌, length, Some, None, sym, subst, ap, arith}
use Rattle.ci_store.specs.Prelude.{HasCleanDisk, state}
use Rattle.ci_store_sqlite.specs.Prelude.{BLOCK_BYTES, last_block, Stands, appended, kept_trace}
use Rattle.ci_store_rows.proofs.Blocks.{stands_without_bytes}
use Rattle.ci_store_sqlite.proofs.Looking.{on_ok}
use Rattle.ci_store_sqlite.proofs.Appending.{nothing, begins, in_both}
use Rattle.ci_store_sqlite.proofs.append.append.Goals as goal

pub returns-then-is_empty-clause-makes : goal.returns-then-is_empty-clause-makes
returns-then-is_empty-clause-makes g c clean inside =
    let none : length c.args.more.now.bytes ≡ 0 = search rules in
    let here = (state g.S.Store c.args.tx.now.conn.now).now in
    (inside, λ k stands. subst (λ bytes. Stands (appended c.args.more.now.attempt bytes k) here) (sym (nothing g.S.Store c.args.more.now.bytes none)) (stands_without_bytes k c.args.more.now.attempt here stands))

pub returns-in_default-clause-makes : goal.returns-in_default-clause-makes
returns-in_default-clause-makes g c clean inside =
    let n = c.args.more.now.attempt in
    let new = c.add_blocks.new.tx.conn.now in
    let early : HasCleanDisk (state g.S.Store c.last_block.new.tx.conn.now) = omega (arith, clean, c.add_blocks.ensures.survives.clean) in
    let finds = c.in_ok-last.ensures.finds early inside in
    on_ok c.add_blocks.result
    (λ made. (
      made.0,
      λ k stands.
          let found = finds.1 k stands in
          let none : None ≡ last_block (kept_trace n k) = sym c.in_default.is ∙ found.1 in
          subst (λ bytes. Stands (appended n bytes k) (state g.S.Store new).now) c.as_slice-bytes.ensures (made.1 k found.0 (λ some. begins g.S.Store n k none)),
    ))
    (c.add_blocks.ensures.makes clean finds.0)

pub returns-clause-makes : goal.returns-clause-makes
returns-clause-makes g c clean inside =
    let n = c.args.more.now.attempt in
    let bytes = c.as_slice-bytes.result.now in
    let last = c.in-Some.last in
    let filling = c.split_at.result.0.now in
    let rest = c.split_at.result.1.now in
    let mid = c.fill.new.tx.conn.now in
    let new = c.add_blocks-2.new.tx.conn.now in
    let room : c.in_ok-room.room + length last.bytes ≡ BLOCK_BYTES = search rules in
    let cut = c.split_at.ensures in
    let full : 0 < length rest → length last.bytes + length filling ≡ BLOCK_BYTES = λ some. omega (arith, room, cut.front_len, cut.back_len, c.min.ensures, some) in
    let next : last.seq + 1 ≡ c.in_ok-next.next = search rules in
    let late : HasCleanDisk (state g.S.Store mid) = omega (arith, clean, c.add_blocks-2.ensures.survives.clean) in
    let early : HasCleanDisk (state g.S.Store c.last_block.new.tx.conn.now) = omega (arith, late, c.fill.ensures.survives.clean) in
    let finds = c.in_ok-last.ensures.finds early inside in
    let fills = c.in_ok-fill.ensures.makes late finds.0 in
    on_ok c.add_blocks-2.result
    (λ made. (
      made.0,
      λ k stands.
          let found = finds.1 k stands in
          let its : Some last ≡ last_block (kept_trace n k) = sym c.in-Some.is ∙ found.1 in
          subst (λ bytes. Stands (appended n bytes k) (state g.S.Store new).now) c.as_slice-bytes.ensures
          (in_both g.S.Store n bytes filling rest last mid new k cut.by_index.0 full its (λ its. fills.1 k found.0 its)
          (λ k stands ends. made.1 k stands (λ some. ends some ∙ ap (λ seq. seq * BLOCK_BYTES) next))),
    ))
    (c.add_blocks-2.ensures.makes clean fills.0)
