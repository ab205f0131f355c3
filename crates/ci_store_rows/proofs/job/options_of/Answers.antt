use Rattle.std.proofs.Common.{string_bytes, subst}
use Rattle.ci_store_rows.specs.Prelude.{ReadsSpec}
use Rattle.ci_store_rows.proofs.Reading.{if_ok}
use Rattle.ci_store_rows.proofs.job.options_of.Goals as goal

pub returns : goal.returns
returns c = if_ok c.read_spec.result (λ it reads. (string_bytes c.in_ok-text.text, c.in_ok-text.ensures.ok.1, subst (λ text. ReadsSpec text it) c.as_str.ensures.value reads)) c.read_spec.ensures
