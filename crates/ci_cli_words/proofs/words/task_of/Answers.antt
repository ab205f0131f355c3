use Rattle.std.proofs.Common.{inr, map, string_bytes}
use Rattle.clap.specs.Simple.{app_of}
use Rattle.clap.specs.Values.{kind_of}
use Rattle.ci_cli_words.specs.Words.{IsRefused}
use Rattle.ci_cli_words.proofs.Refusals.{asked_on, no_fault, passed_on, refused}
use Rattle.ci_cli_words.proofs.words.task_of.Goals as goal

pub returns-in_err-matches-clause-fault : goal.returns-in_err-matches-clause-fault
returns-in_err-matches-clause-fault c =
    let here = refused (app_of c.in_ok-command.command) (map string_bytes c.args.words.now) c.in_ok-command.ensures c.in_err-matches.field-0.0 c.in_err-matches.ensures.kinds in
    passed_on c.from_residual-in_err-matches.result c.in_err-matches.field-0.0 (λ e. IsRefused (map string_bytes c.args.words.now) (kind_of e)) c.from_residual-in_err-matches.ensures.1 here

pub returns-in-Some-clause-task : goal.returns-in-Some-clause-task
returns-in-Some-clause-task c =
    rw c.in-Some.is at (asked_on (app_of c.in_ok-command.command) (map string_bytes c.args.words.now) c.in_ok-command.ensures c.in_ok-matches.matches c.in_ok-task.field-0 c.in_ok-matches.ensures.kinds c.in_ok-matches.ensures.ok.2 c.in_ok-task.ensures)

pub returns-clause-fault : goal.returns-clause-fault
returns-clause-fault c =
    let asks = rw c.in-None.is at (asked_on (app_of c.in_ok-command.command) (map string_bytes c.args.words.now) c.in_ok-command.ensures c.in_ok-matches.matches c.in_ok-task.field-0 c.in_ok-matches.ensures.kinds c.in_ok-matches.ensures.ok.2 c.in_ok-task.ensures) in
    inr (inr (c.in_ok-error-in-None.ensures.kind, no_fault (app_of c.in_ok-command.command) (map string_bytes c.args.words.now) c.in_ok-command.ensures c.in_ok-matches.ensures.kinds, asks))
