use Rattle.std.proofs.Common.{◌≡◌, ◌∙◌, [], ◌∷◌, ap, subst, codes}
use Rattle.std.proofs.lemmas.Result.{IfOk-weaker}
use Rattle.ci_machine.specs.Prelude.{MAX_NUMBER}
use Rattle.clap.specs.Built.{AddsArg, AddsInTurn}
use Rattle.clap.specs.Walk.{rule_of}
use Rattle.clap.specs.declared.builder.arg.Arg.{Arg}
use Rattle.ci_cli_words.specs.CommandLine.{command, db, flag, named, number, option, required}
use Rattle.ci_cli_words.proofs.Commands.{with_arguments}
use Rattle.ci_cli_words.proofs.command_line.report.Goals as goal

pub returns : goal.returns
returns c =
    let kind : rule_of c.help-kind.result ≡ named (required (option (codes "kind"))) = ap rule_of c.help-kind.ensures ∙ (ap rule_of c.value_name.ensures ∙ ap named (c.required_option.ensures.rule)) in
    let kind_local = ap (λ (a : Arg). a.global) c.help-kind.ensures ∙ (ap (λ (a : Arg). a.global) c.value_name.ensures ∙ (c.required_option.ensures.local)) in
    let pipeline : rule_of c.help-pipeline.result ≡ number (codes "pipeline") MAX_NUMBER = ap rule_of c.help-pipeline.ensures ∙ (c.number.ensures.rule) in
    let pipeline_local = ap (λ (a : Arg). a.global) c.help-pipeline.ensures ∙ (c.number.ensures.local) in
    let json : rule_of c.help-json.result ≡ flag (codes "json") = ap rule_of c.help-json.ensures ∙ (c.flag.ensures.rule) in
    let json_local = ap (λ (a : Arg). a.global) c.help-json.ensures ∙ (c.flag.ensures.local) in
    IfOk-weaker c.args-2.result _ _ (λ made adds. with_arguments (command (codes "report") (db ∷ [])) c.in_ok-over_server_file.field-0 made (c.help-kind.result ∷ c.help-pipeline.result ∷ c.help-json.result ∷ []) _ c.in_ok-over_server_file.ensures (λ i. kind i ∷ pipeline i ∷ json i ∷ []) (kind_local, (pipeline_local, (json_local, tt))) (subst (λ items. AddsInTurn AddsArg c.in_ok-over_server_file.field-0 items made) c.in_ok-args.ensures.items adds)) c.args-2.ensures
