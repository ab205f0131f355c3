-- What changed nothing can be left out.
use Rattle.ci_machine_laws.proofs.Prelude.{List, [], ◌∷◌, sym, subst, ⊎_elim}
use Rattle.ci_machine_steps.specs.Prelude.{State, Past, Leads}
use Rattle.ci_machine_laws.specs.Unchanged.{LeadsOrStays, AreSome, none, kept, left_out}

pub without_idle : (lines : List Past) (s : State) → LeadsOrStays lines s → (h : List Past) × AreSome h lines × Leads h s
without_idle [] s is = ([], none, is)
without_idle (p ∷ earlier) s w =
    let rest = without_idle earlier p.before w.0 in
    ⊎_elim (λ step. (p ∷ rest.0, kept p rest.1, (rest.2, step))) (λ same. (rest.0, left_out p rest.1, subst (Leads rest.0) (sym same) rest.2)) w.1
