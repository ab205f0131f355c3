use Rattle.std.proofs.Common.{sym, ◌∙◌}
use Rattle.ci_store_rows.proofs.JsonReading.{same_texts, same_read}
use Rattle.ci_store_rows.proofs.Reading.{if_ok}
use Rattle.ci_store_rows.proofs.json.texts.read_list.Goals as goal

pub returns : goal.returns
returns c = if_ok c.texts_of.result (λ it is others reads. same_texts it others (sym is ∙ same_read c.args.text.now _ _ c.in_ok-value.ensures reads)) c.texts_of.ensures
