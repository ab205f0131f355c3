use Rattle.ci_server_events.proofs.Leaving.{asked_so}
use Rattle.ci_server_events.proofs.events.plan_request.Goals as goal

pub returns-in-AddProject : goal.returns-in-AddProject
returns-in-AddProject g c = asked_so _ _ c.in-AddProject.is c.add_project.ensures

pub returns-in-AddRunner : goal.returns-in-AddRunner
returns-in-AddRunner g c = asked_so _ _ c.in-AddRunner.is c.add_runner.ensures

pub returns-in-PauseRunner : goal.returns-in-PauseRunner
returns-in-PauseRunner g c = asked_so _ _ c.in-PauseRunner.is c.pause_runner.ensures

pub returns-in-SetFile : goal.returns-in-SetFile
returns-in-SetFile g c = asked_so _ _ c.in-SetFile.is c.set_file.ensures

pub returns-in-SetVariable : goal.returns-in-SetVariable
returns-in-SetVariable g c = asked_so _ _ c.in-SetVariable.is c.set_variable.ensures

pub returns-in-DeleteVariable : goal.returns-in-DeleteVariable
returns-in-DeleteVariable g c = asked_so _ _ c.in-DeleteVariable.is c.delete_variable.ensures

pub returns-in-SetMode : goal.returns-in-SetMode
returns-in-SetMode g c = asked_so _ _ c.in-SetMode.is c.set_mode.ensures

pub returns-in-ShowMode : goal.returns-in-ShowMode
returns-in-ShowMode g c = asked_so _ _ c.in-ShowMode.is c.show_mode.ensures

pub returns-in-CreatePipeline : goal.returns-in-CreatePipeline
returns-in-CreatePipeline g c = asked_so _ _ c.in-CreatePipeline.is c.create_pipeline.ensures

pub returns-in-ShowPipeline : goal.returns-in-ShowPipeline
returns-in-ShowPipeline g c = asked_so _ _ c.in-ShowPipeline.is c.show_pipeline.ensures

pub returns-in-AskJob : goal.returns-in-AskJob
returns-in-AskJob g c = asked_so _ _ c.in-AskJob.is c.ask_job.ensures

pub returns-in-UpdateJob : goal.returns-in-UpdateJob
returns-in-UpdateJob g c = asked_so _ _ c.in-UpdateJob.is c.update_job.ensures

pub returns-in-AppendTrace : goal.returns-in-AppendTrace
returns-in-AppendTrace g c = asked_so _ _ c.in-AppendTrace.is c.append_trace.ensures

pub returns-in-ShowJob : goal.returns-in-ShowJob
returns-in-ShowJob g c = asked_so _ _ c.in-ShowJob.is c.show_job.ensures

pub returns-in-ShowTrace : goal.returns-in-ShowTrace
returns-in-ShowTrace g c = asked_so _ _ c.in-ShowTrace.is c.show_trace.ensures

pub returns-in-Read : goal.returns-in-Read
returns-in-Read g c = asked_so _ _ c.in-Read.is c.read.ensures

pub returns-in-Play : goal.returns-in-Play
returns-in-Play g c = asked_so _ _ c.in-Play.is c.act_on.ensures

pub returns-in-CancelJob : goal.returns-in-CancelJob
returns-in-CancelJob g c = asked_so _ _ c.in-CancelJob.is c.act_on-in-CancelJob.ensures

pub returns-in-RetryJob : goal.returns-in-RetryJob
returns-in-RetryJob g c = asked_so _ _ c.in-RetryJob.is c.act_on-in-RetryJob.ensures

pub returns-in-CancelPipeline : goal.returns-in-CancelPipeline
returns-in-CancelPipeline g c = asked_so _ _ c.in-CancelPipeline.is c.cancel_pipeline.ensures
