use Rattle.std.proofs.Common.{◌≡◌, ◌==◌, true, All, sym, ap, subst, ◌∙◌}
use Rattle.std.proofs.lemmas.Bool.{and_parts}
use Rattle.std.proofs.lemmas.Option.{IfSome_then}
use Rattle.ci_machine_steps.specs.Prelude.{Record, RowChange, Put, Job, is_within, job_cmp, put, changed}
use Rattle.ci_machine_steps.proofs.Sound.{rising_from_ascend}
use Rattle.ci_server_lookups.specs.Prelude.{IsRight}
use Rattle.ci_server_lookups.specs.declared.sheet.Sheet.{Sheet}
use Rattle.ci_memory_boards.proofs.Lists.{all_put, both_some}
use Rattle.ci_memory_boards.proofs.Placing.{filter_put}
use Rattle.ci_memory_boards.proofs.Stays.{own_job_of}
use Rattle.ci_memory_boards.proofs.after.note_change.Goals as goal

-- it is put among the jobs of the pipeline
pub returns-in-Some : goal.returns-in-Some
returns-in-Some c =
    let m = c.args.sheet.now in
    let new = c.in-Some.job.now in
    let of = own_job_of m c.args.change.now new (sym c.in-Some.ensures) in
    let its = and_parts (new.pipeline == m.pipeline) (is_within m.first m.last new.id) of.1 in
    IfSome_then c.note_job.result (both_some _ _ c.note_job.result c.note_job.ensures.same c.note_job.ensures.jobs) (λ _ noted k order right.
    subst (λ (x : RowChange). IsRight c.note_job.new.sheet (record k { state = changed x k.state })) (sym of.0)
    (subst (λ (n : Sheet). IsRight n (record k { state = changed (Put (Record.Job new)) k.state })) (sym noted.0)
    (record {
      jobs = noted.1 ∙ ap (put job_cmp new) right.jobs ∙ sym (filter_put (λ (j : Job). j.id) (λ (j : Job). j.pipeline == m.pipeline) new k.state.jobs (rising_from_ascend (λ (j : Job). j.id) k.state.jobs order.jobs) its.0);
      inside = subst (All (λ j. is_within m.first m.last j.id ≡ true)) (sym noted.1) (all_put (λ j. is_within m.first m.last j.id ≡ true) job_cmp new m.jobs.items right.inside its.1);
      needs = right.needs;
      attempts = right.attempts;
      rows = right.rows;
      graph = tt;
    })))

-- or the change is another
pub returns-in-None : goal.returns-in-None
returns-in-None c = IfSome_then c.note_other.result c.note_other.ensures (λ _ then k order right. then k order.attempts right)
