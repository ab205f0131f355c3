use Rattle.std.proofs.Common.{◌≡◌, ◌∙◌, [], ◌∷◌, ap, subst, codes}
use Rattle.std.proofs.lemmas.Result.{IfOk-weaker}
use Rattle.clap.specs.Built.{AddsArg, AddsInTurn}
use Rattle.clap.specs.Walk.{rule_of}
use Rattle.clap.specs.declared.builder.arg.Arg.{Arg}
use Rattle.ci_cli_words.specs.CommandLine.{command, file, flag, named, option, repeated, required}
use Rattle.ci_cli_words.proofs.Commands.{with_arguments}
use Rattle.ci_cli_words.proofs.command_line.plan.Goals as goal

pub returns : goal.returns
returns c =
    let git_ref : rule_of c.help-git_ref.result ≡ required (option (codes "ref")) = ap rule_of c.help-git_ref.ensures ∙ (c.required_option.ensures.rule) in
    let git_ref_local = ap (λ (a : Arg). a.global) c.help-git_ref.ensures ∙ (c.required_option.ensures.local) in
    let tag : rule_of c.help-tag.result ≡ flag (codes "tag") = ap rule_of c.help-tag.ensures ∙ (c.flag.ensures.rule) in
    let tag_local = ap (λ (a : Arg). a.global) c.help-tag.ensures ∙ (c.flag.ensures.local) in
    let source : rule_of c.help-source.result ≡ option (codes "source") = ap rule_of c.help-source.ensures ∙ (c.option.ensures.rule) in
    let source_local = ap (λ (a : Arg). a.global) c.help-source.ensures ∙ (c.option.ensures.local) in
    let variable : rule_of c.help-variable.result ≡ named (repeated (option (codes "variable"))) = ap rule_of c.help-variable.ensures ∙ (ap rule_of c.value_name.ensures ∙ ap named (ap rule_of c.action.ensures ∙ ap repeated (c.option-2.ensures.rule))) in
    let variable_local = ap (λ (a : Arg). a.global) c.help-variable.ensures ∙ (ap (λ (a : Arg). a.global) c.value_name.ensures ∙ (ap (λ (a : Arg). a.global) c.action.ensures ∙ (c.option-2.ensures.local))) in
    IfOk-weaker c.args-2.result _ _ (λ made adds. with_arguments (command (codes "plan") (file ∷ [])) c.in_ok-over_ci_file.field-0 made (c.help-git_ref.result ∷ c.help-tag.result ∷ c.help-source.result ∷ c.help-variable.result ∷ []) _ c.in_ok-over_ci_file.ensures (λ i. git_ref i ∷ tag i ∷ source i ∷ variable i ∷ []) (git_ref_local, (tag_local, (source_local, (variable_local, tt)))) (subst (λ items. AddsInTurn AddsArg c.in_ok-over_ci_file.field-0 items made) c.in_ok-args.ensures.items adds)) c.args-2.ensures
