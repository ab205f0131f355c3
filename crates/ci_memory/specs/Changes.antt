-- What changes of records are to pipelines.
use Rattle.std.specs.Prelude.{ℕ, Bool, ◌==◌, ◌||◌, Option, Some, None}
use Rattle.ci_machine_steps.specs.Prelude.{Pipeline, Record, Key, RowChange, Put, Remove, is_newer_of}

-- the pipeline that the change puts, if it puts one
abbrev pub put_pipeline : RowChange → Option Pipeline
put_pipeline (Put (Record.Pipeline p)) = Some p
put_pipeline _ = None

-- the number of the pipeline that the change removes, if it removes one
abbrev pub removed_pipeline : RowChange → Option ℕ
removed_pipeline (Remove (Key.Pipeline n)) = Some n
removed_pipeline _ = None

-- where q is put, it isn't known of p any more that it is as it was, with no newer one
abbrev pub is_unsettled : Pipeline → Pipeline → Bool
is_unsettled q p = (p.id == q.id) || is_newer_of p q
