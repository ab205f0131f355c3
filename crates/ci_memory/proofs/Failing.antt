-- A commit that failed below fails as it did.
use Rattle.std.proofs.Common.{◌≡◌, Result, Err, sym, subst}
use Rattle.ci_server_lookups.specs.Prelude.{StoreFault, Memory, Broken}
use Rattle.ci_store.specs.Prelude.{Ends}

-- with the same fault a call leaves the same where it is broken, and where memory was refused what follows from it
pub fails_too : {A B : Type 0} (r : Result A StoreFault) (s : Result B StoreFault) (fault : StoreFault) → r ≡ Err fault → s ≡ Err fault → (done made memory kept broken : Type 0) → (memory → kept) → Ends r done memory broken → Ends s made kept broken
fails_too r s Memory below here done made memory kept broken more h = subst (λ x. Ends x made kept broken) (sym here) (more (subst (λ x. Ends x done memory broken) below h))
fails_too r s Broken below here done made memory kept broken more h = subst (λ x. Ends x made kept broken) (sym here) (subst (λ x. Ends x done memory broken) below h)
