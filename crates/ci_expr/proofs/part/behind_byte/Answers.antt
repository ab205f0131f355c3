use Rattle.std.proofs.Common.{◌≡◌, get_or, arith, sym, ◌∙◌, ap}
use Rattle.std.proofs.lemmas.Str.{IsCharBoundary-after_ascii}
use Rattle.ci_expr.proofs.Fronts.{within}
use Rattle.ci_expr.proofs.part.behind_byte.Goals as goal

pub range_from-requires : goal.range_from-requires
range_from-requires c =
    let e : get_or c.args.slice.now 0 0 ≡ c.args.byte = ap (λ s. get_or s 0 0) (sym c.as_bytes.ensures.value) ∙ sym c.byte_at.ensures ∙ c.if-byte_at-byte.true in
    let lt = within c.args.slice.now 0 c.args.byte e c.requires.some in
    λ _. IsCharBoundary-after_ascii c.args.slice.now 0 c.utf8.slice lt (omega (arith, e, c.requires.ascii))
