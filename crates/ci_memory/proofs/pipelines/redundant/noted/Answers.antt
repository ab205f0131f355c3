use Rattle.std.proofs.Common.{sym, subst, List, Option, ℕ, ◌++◌, ◌∷◌, []}
use Rattle.ci_machine_steps.specs.Prelude.{Pipeline}
use Rattle.ci_memory.specs.Alone.{Accounts}
use Rattle.ci_memory.specs.Redundant.{IsLeast}
use Rattle.ci_memory.specs.Looks.{IsSeen}
use Rattle.ci_memory.proofs.Looking.{looks_alone, looks_suspect}
use Rattle.ci_memory.proofs.pipelines.redundant.noted.Goals as goal

-- there is no newer one: it is alone
pub returns-in_ok-push-in-Alone : goal.returns-in_ok-push-in-Alone
returns-in_ok-push-in-Alone c = λ k left seen was.
    let n = c.args.number in
    let l = c.args.looked in
    let is = subst (IsSeen k n) c.in-Alone.is seen in
    let after = looks_alone k n left l.alone.items l.suspects.items l.found (record { accounts = was.accounts; least = was.least }) c.in-Alone.pipeline is.0 is.1 in
    record {
      accounts = subst (λ (ps : List Pipeline). Accounts (record { alone = ps; suspects = l.suspects.items ++ left }) k) (sym c.in_ok-push-in-Alone.ensures.items) after.accounts;
      least = after.least;
    }

-- there is: it stays a suspect
pub returns-in_ok-push-in-Suspect : goal.returns-in_ok-push-in-Suspect
returns-in_ok-push-in-Suspect c = λ k left seen was.
    let n = c.args.number in
    let l = c.args.looked in
    let is = subst (IsSeen k n) c.in-Suspect.is seen in
    let after = looks_suspect k n left l.alone.items l.suspects.items l.found (record { accounts = was.accounts; least = was.least }) c.in-Suspect.candidate is in
    let pushed = sym c.in_ok-push-in-Suspect.ensures.items in
    record {
      accounts = subst (λ (ns : List ℕ). Accounts (record { alone = l.alone.items; suspects = ns ++ left }) k) pushed after.accounts;
      least = λ kept.
          subst (λ (ns : List ℕ). IsLeast k.state ns c.lesser.result) pushed
          (subst (λ (o : Option Pipeline). IsLeast k.state (l.suspects.items ++ n ∷ []) o) (sym c.lesser.ensures) (after.least kept));
    }
