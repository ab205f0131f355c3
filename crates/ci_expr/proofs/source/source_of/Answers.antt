use Rattle.std.proofs.Common.{◌≡◌, chars, sym, ◌∙◌, ap, rules}
use Rattle.std.proofs.lemmas.Result.{IfOk-weaker}
use Rattle.std.proofs.lemmas.Str.{chars_from_encodes, IsUtf8-string_bytes}
use Rattle.ci_expr.specs.Prelude.{source_of}
use Rattle.ci_expr.proofs.source.source_of.Goals as goal

pub returns : goal.returns
returns c =
    let points : c.deref.result.now ≡ chars c.args.body.now = search (rules, chars_from_encodes) in
    IfOk-weaker c.source_from.result _ _
    (λ s e. sym (chars_from_encodes _ _ (IsUtf8-string_bytes s) (sym e)) ∙ ap source_of points)
    c.source_from.ensures
