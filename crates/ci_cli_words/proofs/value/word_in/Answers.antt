use Rattle.std.proofs.Common.{◌∙◌}
use Rattle.clap.specs.Matches.{found_of}
use Rattle.clap.proofs.WalkLemmas.{first_value-rows}
use Rattle.ci_cli_words.proofs.Values.{read_text}
use Rattle.ci_cli_words.proofs.value.word_in.Goals as goal

pub returns : goal.returns
returns c = read_text c.get_str.result _ (c.get_str.ensures ∙ first_value-rows (found_of c.args.found.now) c.args.argument.now)
