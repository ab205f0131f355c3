use Rattle.std.proofs.Common.{rules, ◌≡◌, ◌<◌, ◌≤◌, ◌+◌, ◌∙◌, length, refl, subst, arith}
use Rattle.ci_store.specs.Prelude.{HasCleanDisk, state}
use Rattle.sqlite.proofs.StateLemmas.{survives_then}
use Rattle.sqlite.proofs.InsideLemmas.{keeps_then}
use Rattle.ci_store_sqlite.specs.Prelude.{BLOCK_BYTES}
use Rattle.ci_store_sqlite.proofs.Committing.{survives_same}
use Rattle.ci_store_sqlite.proofs.Appending.{AddsSoFar, adds_none, adds_more, adds_all}
use Rattle.ci_store_sqlite.proofs.append.add_blocks.Goals as goal

pub loop-rest-init : goal.loop-rest-init
loop-rest-init g c = (refl, (λ clean inside. adds_none g.S.Store c.args.attempt c.args.first c.args.bytes.now c.args.tx.now.conn.now inside), (λ clean inside. record { was_open = λ h. h; committed = λ h. refl }), survives_same _ _)

pub loop-rest-preserved : goal.loop-rest-preserved
loop-rest-preserved g c =
    let inv = c.loop-rest.invariant in
    let old = c.args.tx.now.conn.now in
    let mid = c.loop-rest.tx.conn.now in
    let new = c.put_block.new.tx.conn.now in
    let one = c.in_ok-put_block.ensures in
    let early = λ (clean : HasCleanDisk (state g.S.Store new)). let h : HasCleanDisk (state g.S.Store mid) = omega (arith, one.survives.clean) in h in
    let rest = c.loop-rest.rest.now in
    let block = c.split_at.result.0.now in
    let behind = c.split_at.result.1.now in
    let next : c.loop-rest.seq + 1 ≡ c.in_ok-seq.seq = search rules in
    let cut = c.split_at.ensures in
    let left : 0 < length rest = search rules in
    let some : 0 < length block = omega (arith, cut.front_len, c.min.ensures, left) in
    let fits : length block ≤ BLOCK_BYTES = omega (arith, cut.front_len, c.min.ensures) in
    let whole : 0 < length behind → length block ≡ BLOCK_BYTES = λ more. omega (arith, cut.front_len, cut.back_len, c.min.ensures, more) in (
      one.same_reference ∙ inv.0,
      λ clean inside.
          let was = inv.1 (early clean) inside in
          subst (λ seq. AddsSoFar g.S.Store c.args.attempt c.args.first c.args.bytes.now seq behind old new) next
          (adds_more g.S.Store c.args.attempt c.args.first c.args.bytes.now c.loop-rest.seq rest block behind old mid new was cut.by_index.0 some fits whole
          (one.puts clean was.inside)),
      λ clean inside. keeps_then _ _ _ (inv.2 (early clean) inside) (one.kept clean (inv.1 (early clean) inside).inside),
      survives_then _ _ _ _ _ _ (λ _ db none. none) (λ _ db none. none) inv.3 one.survives,
    )

pub returns-clause-makes : goal.returns-clause-makes
returns-clause-makes g c clean inside =
    let none : length c.loop-rest.rest.now ≡ 0 = search rules in
    adds_all g.S.Store c.args.attempt c.args.first c.args.bytes.now c.loop-rest.seq c.loop-rest.rest.now c.args.tx.now.conn.now c.loop-rest.tx.conn.now (c.loop-rest.invariant.1 clean inside) none
