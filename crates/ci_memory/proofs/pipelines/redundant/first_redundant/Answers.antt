use Rattle.std.proofs.Common.{sym, subst}
use Rattle.ci_server_lookups.proofs.Loading.{so}
use Rattle.ci_memory.specs.Alone.{IsRight}
use Rattle.ci_memory.proofs.Looking.{found_is_redundant}
use Rattle.ci_memory.proofs.pipelines.redundant.first_redundant.Goals as goal

-- all suspects are looked at
pub returns-clause-found : goal.returns-clause-found
returns-clause-found g c =
    so g.T.Store.honest g.T.Store.holds g.T.Store.leaves _ _ _ _ c.known_of.result c.in_ok-known.known c.look.result c.in_ok-alone.field-0 _ c.in_ok-known.was c.in_ok-alone.was c.known_of.ensures c.look.ensures
    (λ k knows looks right kept.
    let looked = looks (knows kept (subst (λ o. IsRight o k) (sym c.take.ensures.value) right)) in
    found_is_redundant k c.in_ok-alone.field-0.alone.items c.in_ok-alone.field-0.suspects.items c.in_ok-alone.field-0.found (record { accounts = looked.accounts; least = looked.least }) kept)
