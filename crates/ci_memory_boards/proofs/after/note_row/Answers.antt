use Rattle.std.proofs.Common.{◌≡◌, false, sym, ap, ◌∙◌}
use Rattle.std.proofs.lemmas.Option.{IfSome_then}
use Rattle.ci_machine_steps.specs.Prelude.{BoardRow, row_cmp, is_within, put}
use Rattle.ci_machine_steps.proofs.Sound.{rising_from_ascend}
use Rattle.ci_memory_boards.proofs.Lists.{other_put}
use Rattle.ci_memory_boards.proofs.Placing.{filter_put}
use Rattle.ci_memory_boards.proofs.Stays.{key_apart}
use Rattle.ci_memory_boards.proofs.after.note_row.Goals as goal

-- it is put among the rows of these jobs
pub returns-then-has_within : goal.returns-then-has_within
returns-then-has_within c =
    let m = c.args.sheet.now in
    IfSome_then c.put_record.result c.put_record.ensures (λ _ put_in k ascend right. record {
      jobs = right.jobs;
      inside = right.inside;
      needs = right.needs;
      attempts = right.attempts;
      rows = put_in ∙ ap (put row_cmp c.args.row) right.rows ∙ sym (filter_put (λ (r : BoardRow). r.job) (λ (r : BoardRow). is_within m.first m.last r.job) c.args.row k.board (rising_from_ascend (λ (r : BoardRow). r.job) k.board ascend) (sym c.has_within.ensures ∙ c.if-has_within.true));
      graph = right.graph;
    })

-- or is none of them
pub returns : goal.returns
returns c k ascend right =
    let m = c.args.sheet.now in
    let outside : is_within m.first m.last c.args.row.job ≡ false = sym c.has_within.ensures ∙ c.if-has_within.false in
    record {
      jobs = right.jobs;
      inside = right.inside;
      needs = right.needs;
      attempts = right.attempts;
      rows = right.rows ∙ sym (other_put row_cmp (λ (r : BoardRow). is_within m.first m.last r.job) c.args.row k.board outside (λ y has is. key_apart m.first m.last y.job c.args.row.job is outside));
      graph = right.graph;
    }
