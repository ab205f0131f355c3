use Rattle.std.proofs.Common.{◌≡◌, ◌<◌, ℕ, ◌⊎◌, inl, inr, get_or, arith, sym, ◌∙◌, ap}
use Rattle.std.proofs.lemmas.Str.{IsCharBoundary-after_ascii}
use Rattle.ci_expr.proofs.Fronts.{within}
use Rattle.ci_expr.proofs.part.text_of.Goals as goal

mark-bounds : (m : ℕ) → (m ≡ 34) ⊎ ((m ≡ 34 → ⊥) × (m ≡ 39)) → (0 < m) × (m < 128)
mark-bounds m (inl e) = (omega (arith, e), omega (arith, e))
mark-bounds m (inr e) = (omega (arith, e.1), omega (arith, e.1))

pub range_from-requires : goal.range_from-requires
range_from-requires c =
    let e : get_or c.args.slice.now 0 0 ≡ c.byte_at-mark.result = ap (λ s. get_or s 0 0) (sym c.as_bytes.ensures.value) ∙ sym c.byte_at-mark.ensures in
    let mark = mark-bounds c.byte_at-mark.result c.if-mark-eq39.either in
    let lt = within c.args.slice.now 0 c.byte_at-mark.result e mark.0 in
    λ _. IsCharBoundary-after_ascii c.args.slice.now 0 c.utf8.slice lt (omega (arith, e, mark.1))
