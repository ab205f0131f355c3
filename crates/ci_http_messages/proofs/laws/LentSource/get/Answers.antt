use Rattle.std.proofs.Common.{◌≡◌, ◌<◌, ◌-◌, ℕ, List, [], ◌∷◌, ◌++◌, length, take, drop, slice_index_or, slice_set, sym, ap, arith}
use Rattle.std.proofs.lemmas.List.{take_all}
use Rattle.std.proofs.lemmas.Bool.Decides.{nat_tests}
use Rattle.ci_http_messages.proofs.laws.LentSource.get.Goals as goal

-- the first byte is taken, and the others are left
first_taken : (rest buf : List ℕ) → 0 < length rest → 0 < length buf → rest ≡ take 1 (slice_set buf 0 (slice_index_or rest 0 0)) ++ take (length rest - 1) (drop 1 rest)
first_taken [] buf some room = absurd (omega arith)
first_taken (x ∷ xs) [] some room = absurd (omega arith)
first_taken (x ∷ xs) (b ∷ bs) some room = ap (λ l. x ∷ l) (sym (take_all (length (x ∷ xs) - 1) xs (omega arith)))

pub returns-clause-bytes : goal.returns-clause-bytes
returns-clause-bytes c =
    let rest = c.args.self.now.rest.now in
    let buf = c.args.buf.now in
    let e = c.is_empty.ensures in
    let f = c.if-is_empty.false in
    let g = c.is_empty-else-is_empty.ensures in
    let h = c.if-is_empty-2.false in
    let some : 0 < length rest = grind (arith, nat_tests) in
    let room : 0 < length buf = grind (arith, nat_tests) in
    (first_taken rest buf some room, λ k _. absurd (omega (arith, k)))
