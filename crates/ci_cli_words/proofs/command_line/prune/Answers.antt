use Rattle.std.proofs.Common.{◌≡◌, ◌∙◌, [], ◌∷◌, ap, codes}
use Rattle.std.proofs.lemmas.Result.{IfOk-weaker}
use Rattle.clap.specs.Walk.{rule_of}
use Rattle.clap.specs.declared.builder.arg.Arg.{Arg}
use Rattle.ci_cli_words.specs.CommandLine.{command, db, named, option, required}
use Rattle.ci_cli_words.proofs.Commands.{with_argument}
use Rattle.ci_cli_words.proofs.command_line.prune.Goals as goal

pub returns : goal.returns
returns c =
    let before : rule_of c.help-before.result ≡ named (required (option (codes "before"))) = ap rule_of c.help-before.ensures ∙ (ap rule_of c.value_name.ensures ∙ ap named (c.required_option.ensures.rule)) in
    let before_local = ap (λ (a : Arg). a.global) c.help-before.ensures ∙ (ap (λ (a : Arg). a.global) c.value_name.ensures ∙ (c.required_option.ensures.local)) in
    IfOk-weaker c.arg.result _ _ (λ made adds. with_argument (command (codes "prune") (db ∷ [])) c.in_ok-over_server_file.field-0 made c.help-before.result (named (required (option (codes "before")))) c.in_ok-over_server_file.ensures before before_local adds) c.arg.ensures
