use Rattle.std.proofs.Common.{◌≡◌, drop}
use Rattle.clap.specs.Simple.{app_of}
use Rattle.ci_cli_words.specs.CommandLine.{command_line}
use Rattle.ci_cli_words.proofs.Commands.{with_all}
use Rattle.ci_cli_words.proofs.command_line.command_line.Given as goal

abbrev pub invariant-loop-name : goal.invariant-loop-name
invariant-loop-name l = with_all (app_of l.program) (drop l.name-index l.name-items) ≡ command_line
