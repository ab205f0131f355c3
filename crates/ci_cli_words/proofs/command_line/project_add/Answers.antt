use Rattle.std.proofs.Common.{◌≡◌, ◌∙◌, [], ◌∷◌, ap, codes}
use Rattle.std.proofs.lemmas.Result.{IfOk-weaker}
use Rattle.clap.specs.Walk.{rule_of}
use Rattle.clap.specs.declared.builder.arg.Arg.{Arg}
use Rattle.ci_cli_words.specs.CommandLine.{command, db, option, required}
use Rattle.ci_cli_words.proofs.Commands.{with_argument}
use Rattle.ci_cli_words.proofs.command_line.project_add.Goals as goal

pub returns : goal.returns
returns c =
    let name : rule_of c.help-name.result ≡ required (option (codes "name")) = ap rule_of c.help-name.ensures ∙ (c.required_option.ensures.rule) in
    let name_local = ap (λ (a : Arg). a.global) c.help-name.ensures ∙ (c.required_option.ensures.local) in
    IfOk-weaker c.arg.result _ _ (λ made adds. with_argument (command (codes "project-add") (db ∷ [])) c.in_ok-over_server_file.field-0 made c.help-name.result (required (option (codes "name"))) c.in_ok-over_server_file.ensures name name_local adds) c.arg.ensures
