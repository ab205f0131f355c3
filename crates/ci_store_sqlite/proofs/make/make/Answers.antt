use Rattle.ci_store.specs.Prelude.{changed}
use Rattle.ci_store_sqlite.specs.Prelude.{in_state}
use Rattle.ci_store_sqlite.proofs.Applied.{by_item}
use Rattle.ci_store_sqlite.proofs.make.make.Goals as goal

pub returns-in-Put-clause-makes : goal.returns-in-Put-clause-makes
returns-in-Put-clause-makes g c clean inside = by_item g.S.Store c.args.tx.now.conn.now c.put_record.new.tx.conn.now (λ change. in_state (changed change)) c.in-Put.is c.put_record.result (c.put_record.ensures.makes clean inside)

pub returns-in-Remove-clause-makes : goal.returns-in-Remove-clause-makes
returns-in-Remove-clause-makes g c clean inside = by_item g.S.Store c.args.tx.now.conn.now c.remove_record.new.tx.conn.now (λ change. in_state (changed change)) c.in-Remove.is c.remove_record.result (c.remove_record.ensures.makes clean inside)

pub returns-in-Append-clause-makes : goal.returns-in-Append-clause-makes
returns-in-Append-clause-makes g c clean inside = by_item g.S.Store c.args.tx.now.conn.now c.append.new.tx.conn.now (λ change. in_state (changed change)) c.in-Append.is c.append.result (c.append.ensures.makes clean inside)
