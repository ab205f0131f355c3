use Rattle.std.proofs.Common.{◌≤◌, refl, sym, subst}
use Rattle.ci_memory_boards.proofs.FreshStays.{blank_is_right}
use Rattle.ci_memory_boards.proofs.fresh.Fresh.blank.Goals as goal

pub returns : goal.returns
returns c = λ k is.
    let f = c.args.self.now in
    let new = c.if-not-is_new.ensures refl in
    let of = c.empty_sheet.ensures.of in
    let empty = c.empty_sheet.ensures.empty in
    blank_is_right f c.empty_sheet.result k (subst (λ n. f.pipeline ≤ n) (sym of.0) new.0) (subst (λ n. f.job ≤ n) (sym of.1) new.1) empty.0 empty.1 empty.2 empty.3 c.empty_sheet.ensures.graph is
