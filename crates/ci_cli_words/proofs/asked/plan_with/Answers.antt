use Rattle.std.proofs.Common.{refl, sym}
use Rattle.ci_cli_words.proofs.asked.plan_with.Goals as goal

pub returns : goal.returns
returns c = (
  record { file = c.in_ok-word_in.field-0; git_ref = c.in_ok-ref_in.field-0; kind = c.ref_kind_in.result; source = c.in_ok-source_in.field-0; variables = c.args.variables },
  refl,
  (c.in_ok-word_in.ensures, c.in_ok-ref_in.ensures, c.ref_kind_in.ensures, sym c.in_ok-source_in.ensures, c.requires),
)
