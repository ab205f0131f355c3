use Rattle.std.proofs.Common.{Some}
use Rattle.std.proofs.lemmas.List.Elements.{All-pop}
use Rattle.std.proofs.lemmas.List.Sorted.{All-permutation}
use Rattle.std.proofs.lemmas.Option.{IfSome_then}
use Rattle.ci_machine_steps.specs.Prelude.{Kept, cleared, written}
use Rattle.ci_server_lookups.specs.declared.sheet.Sheet.{Sheet}
use Rattle.ci_server_lookups.specs.Prelude.{IsRight}
use Rattle.ci_memory_boards.proofs.Lists.{all_with}
use Rattle.ci_memory_boards.proofs.boards.each_after.Goals as goal

-- the last of those that are left is done
pub loop-sheet-preserved : goal.loop-sheet-preserved
loop-sheet-preserved c k indexes order all =
    let was = c.loop-sheet.invariant k indexes order all in
    let then : Kept = written c.args.changes.now c.args.rows.now indexes (cleared c.args.gone.now k) in
    let one : Sheet = c.in-Some.sheet in
    let parted = All-pop (λ (m : Sheet). IsRight m k) c.loop-sheet.sheets.items c.pop.new.self.items (Some one) c.in-Some.ensures.items was.0 in (
      parted.0,
      all_with (λ (m : Sheet). IsRight m then) c.sheet_after.result c.loop-sheet.left.items c.add.new.left.items c.in_ok-add.ensures was.1
          (IfSome_then c.sheet_after.result c.sheet_after.ensures (λ m settled. settled k indexes order parted.1)),
    )

pub returns : goal.returns
returns c k indexes order all =
    All-permutation (λ (m : Sheet). IsRight m (written c.args.changes.now c.args.rows.now indexes (cleared c.args.gone.now k))) c.loop-sheet.left.items c.turn_round.new.sheets.items c.turn_round.ensures (c.loop-sheet.invariant k indexes order all).1
