use Rattle.std.proofs.Common.{◌≡◌, ◌∙◌, [], ◌∷◌, ap, subst, codes}
use Rattle.std.proofs.lemmas.Result.{IfOk-weaker}
use Rattle.clap.specs.Built.{AddsArg, AddsInTurn}
use Rattle.clap.specs.Walk.{rule_of}
use Rattle.clap.specs.declared.builder.arg.Arg.{Arg}
use Rattle.ci_cli_words.specs.CommandLine.{command, db, flag, named, number, option, required}
use Rattle.ci_cli_words.proofs.Commands.{with_arguments}
use Rattle.ci_cli_words.proofs.command_line.serve.Goals as goal

pub returns : goal.returns
returns c =
    let port : rule_of c.help-port.result ≡ required (number (codes "port") 65535) = ap rule_of c.help-port.ensures ∙ (ap rule_of c.required.ensures ∙ ap required (c.number.ensures.rule)) in
    let port_local = ap (λ (a : Arg). a.global) c.help-port.ensures ∙ (ap (λ (a : Arg). a.global) c.required.ensures ∙ (c.number.ensures.local)) in
    let requests : rule_of c.help-requests.result ≡ required (number (codes "requests") 4294967295) = ap rule_of c.help-requests.ensures ∙ (ap rule_of c.required-2.ensures ∙ ap required (c.number-2.ensures.rule)) in
    let requests_local = ap (λ (a : Arg). a.global) c.help-requests.ensures ∙ (ap (λ (a : Arg). a.global) c.required-2.ensures ∙ (c.number-2.ensures.local)) in
    let stop : rule_of c.help-stop.result ≡ flag (codes "stop-on-fault") = ap rule_of c.help-stop.ensures ∙ (c.flag.ensures.rule) in
    let stop_local = ap (λ (a : Arg). a.global) c.help-stop.ensures ∙ (c.flag.ensures.local) in
    let log : rule_of c.help-log.result ≡ named (option (codes "log")) = ap rule_of c.help-log.ensures ∙ (ap rule_of c.value_name.ensures ∙ ap named (c.option.ensures.rule)) in
    let log_local = ap (λ (a : Arg). a.global) c.help-log.ensures ∙ (ap (λ (a : Arg). a.global) c.value_name.ensures ∙ (c.option.ensures.local)) in
    IfOk-weaker c.args-2.result _ _ (λ made adds. with_arguments (command (codes "serve") (db ∷ [])) c.in_ok-over_server_file.field-0 made (c.help-port.result ∷ c.help-requests.result ∷ c.help-stop.result ∷ c.help-log.result ∷ []) _ c.in_ok-over_server_file.ensures (λ i. port i ∷ requests i ∷ stop i ∷ log i ∷ []) (port_local, (requests_local, (stop_local, (log_local, tt)))) (subst (λ items. AddsInTurn AddsArg c.in_ok-over_server_file.field-0 items made) c.in_ok-args.ensures.items adds)) c.args-2.ensures
