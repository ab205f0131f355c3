use Rattle.ci_store.specs.Prelude.{with_record}
use Rattle.ci_store_sqlite.specs.Prelude.{in_state}
use Rattle.ci_store_sqlite.proofs.Applied.{by_item}
use Rattle.ci_store_sqlite.proofs.make.put_record.Goals as goal

pub returns-in-Project-clause-makes : goal.returns-in-Project-clause-makes
returns-in-Project-clause-makes g c clean inside = by_item g.S.Store c.args.tx.now.conn.now c.put.new.tx.conn.now (λ r. in_state (with_record r)) c.in-Project.is c.put.result (c.put.ensures.makes clean inside)

pub returns-in-Variable-clause-makes : goal.returns-in-Variable-clause-makes
returns-in-Variable-clause-makes g c clean inside = by_item g.S.Store c.args.tx.now.conn.now c.put-in-Variable.new.tx.conn.now (λ r. in_state (with_record r)) c.in-Variable.is c.put-in-Variable.result (c.put-in-Variable.ensures.makes clean inside)

pub returns-in-Runner-clause-makes : goal.returns-in-Runner-clause-makes
returns-in-Runner-clause-makes g c clean inside = by_item g.S.Store c.args.tx.now.conn.now c.put-in-Runner.new.tx.conn.now (λ r. in_state (with_record r)) c.in-Runner.is c.put-in-Runner.result (c.put-in-Runner.ensures.makes clean inside)

pub returns-in-Pipeline-clause-makes : goal.returns-in-Pipeline-clause-makes
returns-in-Pipeline-clause-makes g c clean inside = by_item g.S.Store c.args.tx.now.conn.now c.put-in-Pipeline.new.tx.conn.now (λ r. in_state (with_record r)) c.in-Pipeline.is c.put-in-Pipeline.result (c.put-in-Pipeline.ensures.makes clean inside)

pub returns-in-Job-clause-makes : goal.returns-in-Job-clause-makes
returns-in-Job-clause-makes g c clean inside = by_item g.S.Store c.args.tx.now.conn.now c.put-in-Job.new.tx.conn.now (λ r. in_state (with_record r)) c.in-Job.is c.put-in-Job.result (c.put-in-Job.ensures.makes clean inside)

pub returns-in-JobVariable-clause-makes : goal.returns-in-JobVariable-clause-makes
returns-in-JobVariable-clause-makes g c clean inside = by_item g.S.Store c.args.tx.now.conn.now c.put-in-JobVariable.new.tx.conn.now (λ r. in_state (with_record r)) c.in-JobVariable.is c.put-in-JobVariable.result (c.put-in-JobVariable.ensures.makes clean inside)

pub returns-in-Attempt-clause-makes : goal.returns-in-Attempt-clause-makes
returns-in-Attempt-clause-makes g c clean inside = by_item g.S.Store c.args.tx.now.conn.now c.put-in-Attempt.new.tx.conn.now (λ r. in_state (with_record r)) c.in-Attempt.is c.put-in-Attempt.result (c.put-in-Attempt.ensures.makes clean inside)

pub returns-in-Need-clause-makes : goal.returns-in-Need-clause-makes
returns-in-Need-clause-makes g c clean inside = by_item g.S.Store c.args.tx.now.conn.now c.put-in-Need.new.tx.conn.now (λ r. in_state (with_record r)) c.in-Need.is c.put-in-Need.result (c.put-in-Need.ensures.makes clean inside)

pub returns-in-Mode-clause-makes : goal.returns-in-Mode-clause-makes
returns-in-Mode-clause-makes g c clean inside = by_item g.S.Store c.args.tx.now.conn.now c.put-in-Mode.new.tx.conn.now (λ r. in_state (with_record r)) c.in-Mode.is c.put-in-Mode.result (c.put-in-Mode.ensures.makes clean inside)

pub returns-in-Next-clause-makes : goal.returns-in-Next-clause-makes
returns-in-Next-clause-makes g c clean inside = by_item g.S.Store c.args.tx.now.conn.now c.set_next.new.tx.conn.now (λ r. in_state (with_record r)) c.in-Next.is c.set_next.result (c.set_next.ensures.makes clean inside)
