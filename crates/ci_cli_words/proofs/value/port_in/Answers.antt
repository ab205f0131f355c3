use Rattle.std.proofs.Common.{◌∙◌}
use Rattle.clap.specs.Matches.{found_of}
use Rattle.clap.proofs.WalkLemmas.{one_text-rows}
use Rattle.std.specs.contracts.prelude.U16FromStr.TheImpl as FromStr
use Rattle.ci_cli_words.proofs.Numbers.{read_number}
use Rattle.ci_cli_words.proofs.value.port_in.Goals as goal

pub returns : goal.returns
returns c =
    let rows = one_text-rows (found_of c.args.found.now) c.args.option.now in
    read_number 16 {G = FromStr.ghosts.from_str_gives} (λ t x g. g.0) _ c.get_one.result (λ e. c.get_one.ensures.none (rows ∙ e)) (λ t e. c.get_one.ensures.value t (rows ∙ e))
