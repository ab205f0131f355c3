-- Statuses as users are told them.
use Rattle.std.specs.Prelude.{ℕ, List, codes}
use Rattle.ci_board.specs.declared.facts.Status.{Status}

-- the status in GitLab's words
abbrev pub status_text : Status → List ℕ
status_text Status.Created = codes "created"
status_text Status.Pending = codes "pending"
status_text Status.Running = codes "running"
status_text Status.Success = codes "success"
status_text Status.Failed = codes "failed"
status_text Status.Canceled = codes "canceled"
status_text Status.Skipped = codes "skipped"
status_text Status.Manual = codes "manual"
