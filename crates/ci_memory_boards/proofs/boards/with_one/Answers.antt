use Rattle.std.proofs.Common.{◌++◌, ◌∷◌, [], List, Contains, sym, ap, subst, ◌∙◌}
use Rattle.ci_server_lookups.specs.declared.sheet.Sheet.{Sheet}
use Rattle.ci_memory_boards.proofs.Learned.{under_way_stays_beside}
use Rattle.ci_memory_boards.proofs.boards.with_one.Goals as goal

pub returns-in-Ok-clause-stays : goal.returns-in-Ok-clause-stays
returns-in-Ok-clause-stays c room m has passes =
    subst (λ (l : List Sheet). Contains l m) (sym (c.in-Ok.ensures.items ∙ ap (λ (l : List Sheet). l ++ c.args.sheet ∷ []) c.make_room.ensures))
    (under_way_stays_beside c.args.sheets.items c.args.sheet m room has passes)
