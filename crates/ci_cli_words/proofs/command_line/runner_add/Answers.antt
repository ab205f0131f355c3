use Rattle.std.proofs.Common.{◌≡◌, ◌∙◌, [], ◌∷◌, ap, subst, codes}
use Rattle.std.proofs.lemmas.Result.{IfOk-weaker}
use Rattle.ci_machine.specs.Prelude.{MAX_NUMBER}
use Rattle.clap.specs.Built.{AddsArg, AddsInTurn}
use Rattle.clap.specs.Walk.{rule_of}
use Rattle.clap.specs.declared.builder.arg.Arg.{Arg}
use Rattle.ci_cli_words.specs.CommandLine.{command, db, flag, named, number, option, required}
use Rattle.ci_cli_words.proofs.Commands.{with_arguments}
use Rattle.ci_cli_words.proofs.command_line.runner_add.Goals as goal

pub returns : goal.returns
returns c =
    let name : rule_of c.help-name.result ≡ required (option (codes "name")) = ap rule_of c.help-name.ensures ∙ (c.required_option.ensures.rule) in
    let name_local = ap (λ (a : Arg). a.global) c.help-name.ensures ∙ (c.required_option.ensures.local) in
    let project : rule_of c.help-project.result ≡ number (codes "project") MAX_NUMBER = ap rule_of c.help-project.ensures ∙ (c.number.ensures.rule) in
    let project_local = ap (λ (a : Arg). a.global) c.help-project.ensures ∙ (c.number.ensures.local) in
    let tags : rule_of c.help-tags.result ≡ named (option (codes "tags")) = ap rule_of c.help-tags.ensures ∙ (ap rule_of c.value_name.ensures ∙ ap named (c.option.ensures.rule)) in
    let tags_local = ap (λ (a : Arg). a.global) c.help-tags.ensures ∙ (ap (λ (a : Arg). a.global) c.value_name.ensures ∙ (c.option.ensures.local)) in
    let untagged : rule_of c.help-untagged.result ≡ flag (codes "untagged") = ap rule_of c.help-untagged.ensures ∙ (c.flag.ensures.rule) in
    let untagged_local = ap (λ (a : Arg). a.global) c.help-untagged.ensures ∙ (c.flag.ensures.local) in
    IfOk-weaker c.args-2.result _ _ (λ made adds. with_arguments (command (codes "runner-add") (db ∷ [])) c.in_ok-over_server_file.field-0 made (c.help-name.result ∷ c.help-project.result ∷ c.help-tags.result ∷ c.help-untagged.result ∷ []) _ c.in_ok-over_server_file.ensures (λ i. name i ∷ project i ∷ tags i ∷ untagged i ∷ []) (name_local, (project_local, (tags_local, (untagged_local, tt)))) (subst (λ items. AddsInTurn AddsArg c.in_ok-over_server_file.field-0 items made) c.in_ok-args.ensures.items adds)) c.args-2.ensures
