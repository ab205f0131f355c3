use Rattle.ci_config.specs.Prelude.{file_from, config_of, judged, pairs_view, config_view}
use Rattle.ci_config_reader.specs.Parts.{file_parts_view}
use Rattle.ci_config.proofs.Owns.{own-judged}
use Rattle.ci_config_reader.proofs.Telling.{then-read}
use Rattle.ci_config_reader.proofs.file.file_config.Goals as goal

pub returns-in-Ok : goal.returns-in-Ok
returns-in-Ok c =
    let ms = pairs_view c.args.pairs.now in
    let f = file_parts_view c.in-Ok.parts in
    then-read config_view c.configured.result (file_from ms) (λ f. judged ms (config_of f)) f (own-judged ms (config_of f)) c.in-Ok.ensures c.configured.ensures
