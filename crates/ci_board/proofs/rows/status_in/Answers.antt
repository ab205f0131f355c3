use Rattle.ci_board.proofs.Assignments.{status_worked}
use Rattle.ci_board.proofs.rows.status_in.Goals as goal

pub returns-clause-status : goal.returns-clause-status
returns-clause-status g c =
    let s = status_worked c.args.graph.now c.work_out.new.graph c.args.facts.now c.args.fresh.now c.work_out.new.rows c.args.j c.work_out.ensures.net c.requires.fresh c.work_out.ensures.rows in
    rw (c.status_at.ensures) s
