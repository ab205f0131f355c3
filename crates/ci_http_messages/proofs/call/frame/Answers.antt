use Rattle.std.proofs.Common.{Some, codes, ap, sym, ◌∙◌}
use Rattle.ci_http_messages.specs.Prelude.{length_after, values_of, head_at}
use Rattle.ci_http_messages.proofs.call.frame.Goals as goal

pub returns-in-Err-clause-refused : goal.returns-in-Err-clause-refused
returns-in-Err-clause-refused c =
    let head = head_at c.args.bytes.now c.whole_head.new.headers c.in-Some.spans in
    let ls = c.find_field-lengths.ensures in
    let cs = c.find_field-codings.ensures in (
      Some (head_at c.args.bytes.now c.whole_head.new.headers c.in-Some.spans),
      c.in-Some.ensures.found,
      ap (λ m. length_after m (values_of (codes "content-length") head.fields) (values_of (codes "transfer-encoding") head.fields)) (sym c.of.ensures) ∙ sym (c.body_length.ensures _ _ ls cs) ∙ c.in-Err.is,
    )
