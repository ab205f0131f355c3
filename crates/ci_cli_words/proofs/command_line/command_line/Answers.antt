use Rattle.std.proofs.Common.{◌≡◌, ◌∙◌, true, refl, sym, ap, arith, drop, drop_of_length-le, get_or, ◌+◌}
use Rattle.clap.specs.Simple.{app_of, app_of_fields, on_top, with_subcommand}
use Rattle.ci_cli_words.specs.CommandLine as cli
use Rattle.ci_cli_words.specs.declared.command_name.CommandName.{CommandName}
use Rattle.ci_cli_words.proofs.Commands.{every_command, rest_at, with_all, with_command}
use Rattle.ci_cli_words.proofs.command_line.command_line.Goals as goal

pub loop-name-init : goal.loop-name-init
loop-name-init c =
    let base : app_of c.subcommand_required-program.result ≡ cli.program =
    ap app_of_fields c.subcommand_required-program.ensures
    ∙ ap (on_top (λ s. record s { subcommand_required = true }))
    (ap app_of_fields c.after_help.ensures ∙ (ap app_of_fields c.version.ensures
    ∙ ap (on_top (λ s. record s { has_version = true })) (ap app_of_fields c.about.ensures ∙ c.new.ensures.app))) in
    ap (λ a. with_all a every_command) base

pub loop-name-preserved : goal.loop-name-preserved
loop-name-preserved c =
    let i = c.loop-name.name-index in
    let one : app_of c.in_ok-program.program ≡ with_subcommand (app_of c.loop-name.program) (cli.shape_of (get_or every_command i CommandName.Check)) =
    with_command _ _ c.loop-name.program c.in_ok-command.field-0 c.in_ok-program.program refl c.in_ok-command.ensures c.in_ok-program.ensures in
    ap (λ a. with_all a (drop (i + 1) every_command)) one ∙ (sym (ap (with_all (app_of c.loop-name.program)) (rest_at i (omega arith))) ∙ c.loop-name.invariant)

pub returns : goal.returns
returns c = sym (ap (with_all (app_of c.loop-name.program)) (drop_of_length-le every_command c.loop-name-test.false)) ∙ c.loop-name.invariant
