use Rattle.ci_memory_boards.proofs.boards.Boards.after.Goals as goal

pub returns : goal.returns
returns c k indexes order right =
    (c.sheets_after.ensures k indexes order (c.with_blank-sheets.ensures k right.1 right.0), c.fresh_after.ensures k indexes c.args.gone.now right.1)
