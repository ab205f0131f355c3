use Rattle.std.proofs.Common.{◌≡◌, ◌∙◌, length, sym, arith}
use Rattle.std.proofs.lemmas.List.{length-map}
use Rattle.ci_config.specs.Prelude.{config_view, job_view}
use Rattle.ci_explain.proofs.check.verdict.judge_tree.Goals as goal

pub returns-in-Ok : goal.returns-in-Ok
returns-in-Ok c =
    let count : c.len.result ≡ length c.in-Ok.config.jobs.items = omega arith in
    (config_view c.in-Ok.config, c.in-Ok.ensures.answer, count ∙ sym (length-map c.in-Ok.config.jobs.items job_view))
