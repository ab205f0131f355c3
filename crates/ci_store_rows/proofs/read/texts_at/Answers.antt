use Rattle.std.proofs.Common.{string_bytes, subst}
use Rattle.ci_store_rows.specs.Prelude.{ReadsList}
use Rattle.ci_store_rows.proofs.Reading.{if_ok}
use Rattle.ci_store_rows.proofs.read.texts_at.Goals as goal

pub returns : goal.returns
returns c = if_ok c.read_list.result (λ it reads. (string_bytes c.in_ok-text.text, c.in_ok-text.ensures.ok.1, subst (λ text. ReadsList text it) c.as_str.ensures.value reads)) c.read_list.ensures
