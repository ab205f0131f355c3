use Rattle.std.proofs.Common.{◌≡◌, ℕ, Some, IfOk, subst, sym, ◌∙◌}
use Rattle.ci_machine_steps.specs.Prelude.{Kept, pipeline_at}
use Rattle.ci_store.specs.Prelude.{UnlessBroken}
use Rattle.ci_server_lookups.specs.Prelude.{IsRight}
use Rattle.ci_server_lookups.proofs.Loading.{joined}
use Rattle.ci_server_events.proofs.Settles.{number_found}
use Rattle.ci_server_events.proofs.ends.beside_end.Goals as goal

-- what was taken is the pipeline's sheet, so what is made of it settles the end, and it may be kept again
pub returns : goal.returns
returns g c =
    let honest = g.T.Store.honest in
    let holds = g.T.Store.holds in
    let n = c.args.pipeline in
    let m = c.in_ok-sheet.sheet in
    let p = c.in-Some.pipeline in
    let keep = c.keep_sheet.ensures in
    let both = joined c.in_ok-sheet.was c.take_sheet.ensures c.pipeline.ensures in
    let found = λ (h : honest c.keep_sheet.new.self) (k : Kept) (held : holds c.args.store.now k).
    subst (λ r. IfOk r (λ y. (IsRight m k × (m.pipeline ≡ n)) × (y ≡ pipeline_at k.state n))) c.in_ok-pipeline.was (both.answered (keep.honest h) k held) in
    let held_then = λ (h : honest c.keep_sheet.new.self) (k : Kept) (held : holds c.args.store.now k).
    keep.kept k (subst (λ r. UnlessBroken r (holds c.pipeline.new.self k)) c.in_ok-pipeline.was (both.kept (keep.honest h) k held)) (c.in_ok-beside.ensures.kept k (found h k held).0.0) in
    record {
      was_honest = λ h. both.was_honest (keep.honest h);
      kept = held_then;
      left = λ h k held. g.met.T.Store.held_is_left c.keep_sheet.new.self k (held_then h k held);
      answered = λ h k held kept live over.
          let was = found h k held in
          let there : pipeline_at k.state n ≡ Some p = sym was.1 ∙ c.in-Some.is in
          let number = number_found k.state n p there in
          c.in_ok-beside.ensures.settled k kept (subst (λ (i : ℕ). pipeline_at k.state i ≡ Some p) (sym number) there) was.0.0 (was.0.1 ∙ sym number) live over;
    }
