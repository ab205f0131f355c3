-- What is known once one more suspect is looked at.
use Rattle.std.proofs.Common.{◌≡◌, ◌++◌, ℕ, List, [], ◌∷◌, Option, Some, None, sym, subst}
use Rattle.std.proofs.lemmas.List.{append_assoc, append-nil}
use Rattle.ci_machine_steps.specs.Prelude.{Pipeline, Kept, newer_in, redundant_in, pipeline_at}
use Rattle.ci_machine_steps.proofs.Sound.{sound}
use Rattle.ci_server_lookups.specs.Prelude.{IsKept}
use Rattle.ci_memory.specs.Alone.{Accounts}
use Rattle.ci_memory.specs.Redundant.{superseded_at, IsLeast, lesser}
use Rattle.ci_memory.proofs.Covers.{covers, accounts, after_look}
use Rattle.ci_memory.proofs.Least.{least_by, is_least, least_more, least_is_redundant}

-- what is known, over plain lists
pub record Looks (k : Kept) (left : List ℕ) (alone : List Pipeline) (suspects : List ℕ) (found : Option Pipeline) : Type 0 where
  pub accounts : Accounts (record { alone = alone; suspects = suspects ++ left }) k
  pub least : IsKept k → IsLeast k.state suspects found

module _ (k : Kept) (n : ℕ) (left : List ℕ) (alone : List Pipeline) (suspects : List ℕ) (found : Option Pipeline) (was : Looks k (n ∷ left) alone suspects found) where
  pub looks_alone : (p : Pipeline) → pipeline_at k.state n ≡ Some p → newer_in k.state p ≡ None → Looks k left (alone ++ p ∷ []) suspects found
  looks_alone p at none = record {
    accounts = accounts (record { alone = alone ++ p ∷ []; suspects = suspects ++ left }) k
        (after_look n p k.state.pipelines k.unfinished alone suspects left (covers (record { alone = alone; suspects = suspects ++ n ∷ left }) k was.accounts) at none);
    least = was.least;
  }

  pub looks_suspect : (q : Option Pipeline) → (IsKept k → q ≡ superseded_at k.state n) → Looks k left alone (suspects ++ n ∷ []) (lesser found q)
  looks_suspect q is = record {
    accounts = subst (λ (ns : List ℕ). Accounts (record { alone = alone; suspects = ns }) k) (sym (append_assoc suspects (n ∷ []) left)) was.accounts;
    least = λ kept. is_least k.state (suspects ++ n ∷ []) (lesser found q) (least_more k.state suspects n found q (is kept) (least_by k.state suspects found (was.least kept)));
  }

-- none is left
module _ (k : Kept) (alone : List Pipeline) (suspects : List ℕ) (found : Option Pipeline) (was : Looks k [] alone suspects found) where
  pub looks_at_all : Accounts (record { alone = alone; suspects = suspects }) k
  looks_at_all = subst (λ (ns : List ℕ). Accounts (record { alone = alone; suspects = ns }) k) (append-nil suspects) was.accounts

  pub found_is_redundant : IsKept k → found ≡ redundant_in k.state k.board
  found_is_redundant kept =
      least_is_redundant k.state k.board k.unfinished alone suspects found (sound k.state kept.sound).pipelines kept.are_indexes.unfinished
      (covers (record { alone = alone; suspects = suspects }) k looks_at_all) (least_by k.state suspects found (was.least kept))
