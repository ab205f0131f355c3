use Rattle.std.proofs.Common.{List, ◌++◌, map, Contains, sym, ap}
use Rattle.ci_machine_steps.specs.Prelude.{Attempt, Job, Put, Record, retry, cancelled_job, cancelled_attempt}
use Rattle.ci_machine.proofs.Keyed.{has_from_contains, has_from_all}
use Rattle.ci_machine_statuses.proofs.ActRecords.{all_attempts, all_leases}
use Rattle.ci_machine_statuses.proofs.laws.acts_are_of_records.Goals as goal

pub returns-clause-retry : goal.returns-clause-retry
returns-clause-retry c = λ s board pipeline jobs needs attempts rows job records has.
    ap (λ (l : List Attempt). retry l job) (sym (all_attempts s board pipeline jobs needs attempts rows records job (has_from_contains job jobs has)))

pub returns-clause-cancel : goal.returns-clause-cancel
returns-clause-cancel c = λ s board pipeline jobs needs attempts rows chosen records all.
    ap (λ (l : List Attempt). map (λ (j : Job). Put (Record.Job (cancelled_job j))) chosen ++ map (λ (a : Attempt). Put (Record.Attempt (cancelled_attempt a))) l)
    (sym (all_leases s board pipeline jobs needs attempts rows records chosen (λ j h. has_from_contains j jobs (has_from_all (Contains jobs) j chosen all h))))
