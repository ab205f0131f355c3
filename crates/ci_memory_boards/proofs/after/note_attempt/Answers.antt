use Rattle.std.proofs.Common.{◌≡◌, OnSome, sym, ap, ◌∙◌, rules}
use Rattle.std.proofs.lemmas.Option.{IfSome_then}
use Rattle.ci_machine_steps.specs.Prelude.{Attempt, is_within, attempt_cmp, put}
use Rattle.ci_machine_steps.proofs.Sound.{rising_from_ascend}
use Rattle.ci_memory_boards.proofs.Placing.{filter_put}
use Rattle.ci_memory_boards.proofs.Stays.{attempt_elsewhere}
use Rattle.ci_memory_boards.proofs.after.note_attempt.Goals as goal

-- it is put among the attempts of these jobs
pub returns-then-has_within : goal.returns-then-has_within
returns-then-has_within c =
    let m = c.args.sheet.now in
    let new = c.args.attempt.now in
    let placed : OnSome c.put_record.result (c.put_record.new.records.items ≡ put attempt_cmp new m.attempts.items) = search rules in
    IfSome_then c.put_record.result placed (λ _ put_in k ascend right. record {
      jobs = right.jobs;
      inside = right.inside;
      needs = right.needs;
      attempts = put_in ∙ ap (put attempt_cmp new) right.attempts ∙ sym (filter_put (λ (a : Attempt). a.id) (λ (a : Attempt). is_within m.first m.last a.job) new k.state.attempts (rising_from_ascend (λ (a : Attempt). a.id) k.state.attempts ascend) (sym c.has_within.ensures ∙ c.if-has_within.true));
      rows = right.rows;
      graph = right.graph;
    })

-- or is and was none of them
pub returns : goal.returns
returns c k ascend right =
    attempt_elsewhere c.args.sheet.now k right c.args.attempt.now (sym c.has_within.ensures ∙ c.if-has_within.false) (sym c.has_attempt.ensures ∙ c.if-has_attempt.false)
