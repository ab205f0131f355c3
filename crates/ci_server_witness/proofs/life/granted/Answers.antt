use Rattle.std.proofs.Common.{IfOk, ◌∷◌, subst, sym}
use Rattle.ci_server_witness.specs.Life.{IsOpenAt, IsCause, planned, before_grant, granted, with_attempt}
use Rattle.ci_server_witness.proofs.LifeLemmas.{asked, next, handed_on, plans_project, plans_runner, plans_file, plans_pipeline, plans_grant}
use Rattle.ci_server_witness.proofs.life.granted.Goals as goal

pub returns-in_err-server-2-clause-stopped : goal.returns-in_err-server-2-clause-stopped
returns-in_err-server-2-clause-stopped c =
    let first = c.in_ok-server.ensures.created in
    let cause = c.in_err-server-2.ensures.stopped _ _ _ first (asked c.in_ok-project.ensures plans_project) in
    handed_on c.from_residual-in_err-server-2.result c.from_residual-in_err-server-2.ensures.1 (λ e same. subst IsCause (sym same) cause)

pub returns-in_err-server-3-clause-stopped : goal.returns-in_err-server-3-clause-stopped
returns-in_err-server-3-clause-stopped c =
    let first = c.in_ok-server.ensures.created in
    let second = next c.in_ok-project.ensures plans_project c.in_ok-server-2.ensures.taken first in
    let cause = c.in_err-server-3.ensures.stopped _ _ _ second (asked c.in_ok-runner.ensures plans_runner) in
    handed_on c.from_residual-in_err-server-3.result c.from_residual-in_err-server-3.ensures.1 (λ e same. subst IsCause (sym same) cause)

pub returns-in_err-server-4-clause-stopped : goal.returns-in_err-server-4-clause-stopped
returns-in_err-server-4-clause-stopped c =
    let file_so = plans_file c.has_one_tree.ensures c.has_not_both.ensures c.reads_trees.ensures c.answers_once_without_patterns.ensures in
    let first = c.in_ok-server.ensures.created in
    let second = next c.in_ok-project.ensures plans_project c.in_ok-server-2.ensures.taken first in
    let third = next c.in_ok-runner.ensures plans_runner c.in_ok-server-3.ensures.taken second in
    let cause = c.in_err-server-4.ensures.stopped _ _ _ third (asked c.in_ok-file.ensures file_so) in
    handed_on c.from_residual-in_err-server-4.result c.from_residual-in_err-server-4.ensures.1 (λ e same. subst IsCause (sym same) cause)

pub returns-in_err-server-5-clause-stopped : goal.returns-in_err-server-5-clause-stopped
returns-in_err-server-5-clause-stopped c =
    let file_so = plans_file c.has_one_tree.ensures c.has_not_both.ensures c.reads_trees.ensures c.answers_once_without_patterns.ensures in
    let pipeline_so = plans_pipeline c.has_one_tree.ensures c.has_not_both.ensures c.reads_trees.ensures c.answers_once_without_patterns.ensures in
    let first = c.in_ok-server.ensures.created in
    let second = next c.in_ok-project.ensures plans_project c.in_ok-server-2.ensures.taken first in
    let third = next c.in_ok-runner.ensures plans_runner c.in_ok-server-3.ensures.taken second in
    let fourth = next c.in_ok-file.ensures file_so c.in_ok-server-4.ensures.taken third in
    let cause = c.in_err-server-5.ensures.stopped _ _ _ fourth (asked c.in_ok-pipeline.ensures pipeline_so) in
    handed_on c.from_residual-in_err-server-5.result c.from_residual-in_err-server-5.ensures.1 (λ e same. subst IsCause (sym same) cause)

pub returns-clause-granted : goal.returns-clause-granted
returns-clause-granted c =
    let file_so = plans_file c.has_one_tree.ensures c.has_not_both.ensures c.reads_trees.ensures c.answers_once_without_patterns.ensures in
    let pipeline_so = plans_pipeline c.has_one_tree.ensures c.has_not_both.ensures c.reads_trees.ensures c.answers_once_without_patterns.ensures in
    let first = c.in_ok-server.ensures.created in
    let second = next c.in_ok-project.ensures plans_project c.in_ok-server-2.ensures.taken first in
    let third = next c.in_ok-runner.ensures plans_runner c.in_ok-server-3.ensures.taken second in
    let fourth = next c.in_ok-file.ensures file_so c.in_ok-server-4.ensures.taken third in
    let fifth = next c.in_ok-pipeline.ensures pipeline_so c.in_ok-server-5.ensures.taken fourth in
    subst (λ r. IfOk c.taken-5.result (IsOpenAt (planned r granted ∷ before_grant) with_attempt)) c.in_ok-job_request.ensures (c.taken-5.ensures.taken _ _ _ fifth (asked c.in_ok-job_request.ensures plans_grant))

pub returns-clause-stopped : goal.returns-clause-stopped
returns-clause-stopped c =
    let file_so = plans_file c.has_one_tree.ensures c.has_not_both.ensures c.reads_trees.ensures c.answers_once_without_patterns.ensures in
    let pipeline_so = plans_pipeline c.has_one_tree.ensures c.has_not_both.ensures c.reads_trees.ensures c.answers_once_without_patterns.ensures in
    let first = c.in_ok-server.ensures.created in
    let second = next c.in_ok-project.ensures plans_project c.in_ok-server-2.ensures.taken first in
    let third = next c.in_ok-runner.ensures plans_runner c.in_ok-server-3.ensures.taken second in
    let fourth = next c.in_ok-file.ensures file_so c.in_ok-server-4.ensures.taken third in
    let fifth = next c.in_ok-pipeline.ensures pipeline_so c.in_ok-server-5.ensures.taken fourth in
    c.taken-5.ensures.stopped _ _ _ fifth (asked c.in_ok-job_request.ensures plans_grant)
