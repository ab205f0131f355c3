use Rattle.std.proofs.Common.{◌≡◌, ◌∙◌, [], ◌∷◌, ap, subst, codes}
use Rattle.std.proofs.lemmas.Result.{IfOk-weaker}
use Rattle.ci_machine.specs.Prelude.{MAX_NUMBER}
use Rattle.clap.specs.Built.{AddsArg, AddsInTurn}
use Rattle.clap.specs.Walk.{rule_of}
use Rattle.clap.specs.declared.builder.arg.Arg.{Arg}
use Rattle.ci_cli_words.specs.CommandLine.{command, db, flag, number, required}
use Rattle.ci_cli_words.proofs.Commands.{with_arguments}
use Rattle.ci_cli_words.proofs.command_line.runner_pause.Goals as goal

pub returns : goal.returns
returns c =
    let runner : rule_of c.help-runner.result ≡ required (number (codes "runner") MAX_NUMBER) = ap rule_of c.help-runner.ensures ∙ (ap rule_of c.required.ensures ∙ ap required (c.number.ensures.rule)) in
    let runner_local = ap (λ (a : Arg). a.global) c.help-runner.ensures ∙ (ap (λ (a : Arg). a.global) c.required.ensures ∙ (c.number.ensures.local)) in
    let resume : rule_of c.help-resume.result ≡ flag (codes "resume") = ap rule_of c.help-resume.ensures ∙ (c.flag.ensures.rule) in
    let resume_local = ap (λ (a : Arg). a.global) c.help-resume.ensures ∙ (c.flag.ensures.local) in
    IfOk-weaker c.args-2.result _ _ (λ made adds. with_arguments (command (codes "runner-pause") (db ∷ [])) c.in_ok-over_server_file.field-0 made (c.help-runner.result ∷ c.help-resume.result ∷ []) _ c.in_ok-over_server_file.ensures (λ i. runner i ∷ resume i ∷ []) (runner_local, (resume_local, tt)) (subst (λ items. AddsInTurn AddsArg c.in_ok-over_server_file.field-0 items made) c.in_ok-args.ensures.items adds)) c.args-2.ensures
