use Rattle.std.proofs.Common.{◌∙◌}
use Rattle.clap.specs.Matches.{found_of}
use Rattle.clap.proofs.WalkLemmas.{one_text-rows}
use Rattle.ci_cli_words.proofs.Flags.{read_flag}
use Rattle.ci_cli_words.proofs.value.is_set.Goals as goal

pub returns : goal.returns
returns c =
    let rows = one_text-rows (found_of c.args.found.now) c.args.flag.now in
    c.unwrap_or.ensures ∙ read_flag _ _ c.get_one-value.result (λ e. c.get_one-value.ensures.none (rows ∙ e)) (λ t e. c.get_one-value.ensures.value t (rows ∙ e))
