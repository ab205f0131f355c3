-- Bytes behind the trace of an attempt, block by block.
use Rattle.std.proofs.Common.{◌≡◌, ◌∙◌, ◌<◌, ◌≤◌, ℕ, ◌+◌, ◌*◌, List, [], ◌∷◌, ◌++◌, length, Option, Some, None, refl, sym, ap, subst, arith, IsTrue, length-append}
use Rattle.std.proofs.lemmas.List.{append-nil, append_assoc}
use Rattle.ci_store.specs.Prelude.{Schema, IsPlain, understood, Ghosts, Held, state, Kept, trace_of}
use Rattle.ci_store.proofs.Selects.{shown_same}
use Rattle.ci_store_sqlite.specs.Prelude.{Block, BLOCK_BYTES, SELECT_LAST_BLOCKS, last_block, StaysWithin, number, block_row, ShowsRecords, listed, Stands, appended, PutsBlock}
use Rattle.ci_store_sqlite.specs.Prelude.{kept_trace}
use Rattle.ci_store_rows.proofs.BlockLists.{trace_grown, no_last, its_last, last_has_room, new_block}
use Rattle.ci_store_rows.proofs.Blocks.{plain_select_last, last_found, stands_without_bytes, stands_in_two}

-- the trace after bytes are behind it
grown : (n : ℕ) (bytes : List ℕ) (k : Kept) → trace_of (appended n bytes k).state n ≡ trace_of k.state n ++ bytes
grown n bytes k = trace_grown n bytes k.state.traces

module _ {S : Type 0} (g : Ghosts S) where
  -- ---- the last block

  pub found_inside : (old new : Held S) (n : ℕ) (found : Option Block) → ShowsRecords (λ row x. row ≡ block_row x) g SELECT_LAST_BLOCKS.now (number n ∷ number 1 ∷ []) old new (listed found) → (k : Kept) → Stands k (state g old).now
      → Stands k (state g new).now × (found ≡ last_block (kept_trace n k))
  found_inside old new n found h k stands =
      let plain = subst (λ (schema : Schema). IsPlain (understood schema SELECT_LAST_BLOCKS.now)) (sym stands.listed) plain_select_last in
      let still = shown_same SELECT_LAST_BLOCKS.now (number n ∷ number 1 ∷ []) (state g old) (state g new) h.rows plain h.shown in
      (subst (Stands k) (sym still.0.now_is) stands, last_found g old new k stands n found h)

  -- it is filled
  pub filled : (old new : Held S) (last : Block) (bytes all : List ℕ) → all ≡ last.bytes ++ bytes → 0 < length bytes → length last.bytes + length bytes ≤ BLOCK_BYTES → PutsBlock g (record last { bytes = all }) old new
      → (k : Kept) → Stands k (state g old).now → last_block (kept_trace last.attempt k) ≡ Some last → Stands (appended last.attempt bytes k) (state g new).now
  filled old new last bytes all is some fits puts k stands its =
      puts.1 k bytes stands (subst (λ all. StaysWithin (trace_of k.state last.attempt) bytes last.seq all) (sym is) (last_has_room (kept_trace last.attempt k) last bytes its some fits))

  -- ---- new blocks

  -- so many bytes are behind a trace that ended as a block did, and the rest is not
  pub record AddsSoFar (n first : ℕ) (bytes : List ℕ) (seq : ℕ) (rest : List ℕ) (old now : Held S) : Type 0 where
    pub inside : IsTrue now.in_transaction
    pub done : List ℕ
    pub all : done ++ rest ≡ bytes
    pub ends : (k : Kept) → (0 < length bytes → length (trace_of k.state n) ≡ first * BLOCK_BYTES) → 0 < length rest → length (trace_of k.state n) + length done ≡ seq * BLOCK_BYTES
    pub makes : (k : Kept) → Stands k (state g old).now → (0 < length bytes → length (trace_of k.state n) ≡ first * BLOCK_BYTES) → Stands (appended n done k) (state g now).now

  pub adds_none : (n first : ℕ) (bytes : List ℕ) (old : Held S) → IsTrue old.in_transaction → AddsSoFar n first bytes first bytes old old
  adds_none n first bytes old inside = record {
    inside = inside;
    done = [];
    all = refl;
    ends = λ k ends some. let at = ends some in omega (arith, at);
    makes = λ k stands ends. stands_without_bytes k n (state g old).now stands;
  }

  pub adds_more : (n first : ℕ) (bytes : List ℕ) (seq : ℕ) (rest block behind : List ℕ) (old mid new : Held S) → AddsSoFar n first bytes seq rest old mid → rest ≡ block ++ behind → 0 < length block → length block ≤ BLOCK_BYTES
      → (0 < length behind → length block ≡ BLOCK_BYTES) → PutsBlock g (record { attempt = n; seq = seq; bytes = block }) mid new → AddsSoFar n first bytes (seq + 1) behind old new
  adds_more n first bytes seq rest block behind old mid new so_far is some fits whole puts =
      let more : 0 < length rest = omega (arith, ap length is, length-append block behind, some) in
      record {
        inside = puts.0;
        done = so_far.done ++ block;
        all = append_assoc so_far.done block behind ∙ ap (λ l. so_far.done ++ l) (sym is) ∙ so_far.all;
        ends = λ k ends left. omega (arith, so_far.ends k ends more, whole left, length-append so_far.done block);
        makes = λ k stands ends.
            let here = so_far.makes k stands ends in
            let mid_k = appended n so_far.done k in
            let size : length (trace_of mid_k.state n) ≡ seq * BLOCK_BYTES = ap length (grown n so_far.done k) ∙ length-append (trace_of k.state n) so_far.done ∙ so_far.ends k ends more in
            stands_in_two k n so_far.done block (state g new).now (puts.1 mid_k block here (new_block (trace_of mid_k.state n) block seq size some fits));
      }

  pub nothing : (xs : List ℕ) → length xs ≡ 0 → xs ≡ []
  nothing [] is = refl
  nothing (x ∷ xs) is = absurd (omega (arith, is))

  pub adds_all : (n first : ℕ) (bytes : List ℕ) (seq : ℕ) (rest : List ℕ) (old now : Held S) → AddsSoFar n first bytes seq rest old now → length rest ≡ 0
      → IsTrue now.in_transaction × ((k : Kept) → Stands k (state g old).now → (0 < length bytes → length (trace_of k.state n) ≡ first * BLOCK_BYTES) → Stands (appended n bytes k) (state g now).now)
  adds_all n first bytes seq rest old now so_far none =
      let all : so_far.done ≡ bytes = sym (append-nil so_far.done) ∙ ap (λ l. so_far.done ++ l) (sym (nothing rest none)) ∙ so_far.all in
      (so_far.inside, λ k stands ends. subst (λ bytes. Stands (appended n bytes k) (state g now).now) all (so_far.makes k stands ends))

  -- ---- both

  -- a trace without a last block ends where none begins
  pub begins : (n : ℕ) (k : Kept) → None ≡ last_block (kept_trace n k) → length (trace_of k.state n) ≡ 0 * BLOCK_BYTES
  begins n k none = no_last (kept_trace n k) (sym none)

  -- the last block is filled, and what is left makes new ones
  pub in_both : (n : ℕ) (bytes filling rest : List ℕ) (last : Block) (mid new : Held S) (k : Kept) → bytes ≡ filling ++ rest → (0 < length rest → length last.bytes + length filling ≡ BLOCK_BYTES)
      → Some last ≡ last_block (kept_trace n k)
      → ((last_block (kept_trace last.attempt k) ≡ Some last) → Stands (appended last.attempt filling k) (state g mid).now)
      → ((k : Kept) → Stands k (state g mid).now → (0 < length rest → length (trace_of k.state n) ≡ (last.seq + 1) * BLOCK_BYTES) → Stands (appended n rest k) (state g new).now)
      → Stands (appended n bytes k) (state g new).now
  in_both n bytes filling rest last mid new k is full its fills adds =
      let it = its_last (kept_trace n k) last (sym its) in
      let mid_stands : Stands (appended n filling k) (state g mid).now = subst (λ m. Stands (appended m filling k) (state g mid).now) it.attempt (fills (subst (λ m. last_block (kept_trace m k) ≡ Some last) (sym it.attempt) (sym its))) in
      let size : length (trace_of (appended n filling k).state n) ≡ length (trace_of k.state n) + length filling = ap length (grown n filling k) ∙ length-append (trace_of k.state n) filling in
      subst (λ bytes. Stands (appended n bytes k) (state g new).now) (sym is)
      (stands_in_two k n filling rest (state g new).now (adds (appended n filling k) mid_stands (λ some. let whole = full some in omega (arith, size, it.size, whole))))
