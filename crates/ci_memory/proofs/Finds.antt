-- What finds a project in a state finds it after a change that isn't of it.
use Rattle.std.proofs.Common.{◌≡◌, ◌==◌, ℕ, Bool, true, false, not, List, [], ◌∷◌, filter, find, All, Some, nat_cmp, is_eq, sym, subst, ◌∙◌, arith, eq-eqb}
use Rattle.std.specs.Str.{bytes_eq}
use Rattle.std.proofs.lemmas.Bool.{false≢true, not-true, or_parts}
use Rattle.std.proofs.lemmas.Slice.Eq.{bytes_eq-Decides}
use Rattle.ci_machine_steps.specs.Prelude.{Key, Record, RowChange, Put, Remove, Project, State, others, project_cmp, changed}
use Rattle.ci_machine.proofs.Keyed.{has_filter, has_find, has_from_all, All-from_has, unequal}
use Rattle.ci_memory.specs.Projects.{IsFound, is_of_project}
use Rattle.ci_machine.proofs.Found.{find_placed}

-- one that is found is found still among those of which it is one
find_left : {A : Type 0} (test left : A → Bool) (x : A) (xs : List A) → find test xs ≡ Some x → left x ≡ true → find test (filter left xs) ≡ Some x
find_left test left x [] is k = is
find_left test left x (z ∷ zs) is k = grind (arith, find_left test left x zs)

-- a change that isn't of a project that is found leaves it found
stays_found : (p : Project) (c : RowChange) (s : State) → is_of_project p c ≡ false → IsFound s p → IsFound (changed c s) p
stays_found p (Put (Record.Project x)) s e is =
    find_placed project_cmp (λ q. bytes_eq q.token p.token) x (others project_cmp x s.projects) (or_parts (x.id == p.id) (bytes_eq x.token p.token) e).1
    ∙ find_left (λ q. bytes_eq q.token p.token) (λ y. not (is_eq (project_cmp y x))) p s.projects is (unequal p.id x.id (λ same. false≢true (sym (or_parts (x.id == p.id) (bytes_eq x.token p.token) e).0 ∙ eq-eqb x.id p.id (sym same))))
stays_found p (Remove (Key.Project n)) s e is =
    find_left (λ q. bytes_eq q.token p.token) (λ y. not (is_eq (nat_cmp y.id n))) p s.projects is (unequal p.id n (λ same. false≢true (sym e ∙ eq-eqb n p.id (sym same))))
stays_found p _ s e is = is

-- so those are found still that the change isn't of
pub left_found : (c : RowChange) (s : State) (ps : List Project) → All (IsFound s) ps → All (IsFound (changed c s)) (filter (λ p. not (is_of_project p c)) ps)
left_found c s ps all =
    All-from_has (IsFound (changed c s)) (filter (λ p. not (is_of_project p c)) ps)
    (λ p has. let its = has_filter (λ q. not (is_of_project q c)) p ps has in stays_found p c s (not-true (is_of_project p c) its.1) (has_from_all (IsFound s) p ps all its.0))

-- what a token finds has it
pub found_by : (s : State) (token : List ℕ) (p : Project) → find (λ q. bytes_eq q.token token) s.projects ≡ Some p → IsFound s p
found_by s token p is = subst (λ t. find (λ q. bytes_eq q.token t) s.projects ≡ Some p) (sym ((bytes_eq-Decides p.token token).0 (has_find (λ q. bytes_eq q.token token) p s.projects is).1)) is

-- one of those that are found, by its token
pub found_again : (s : State) (token : List ℕ) (p : Project) (ps : List Project) → All (IsFound s) ps → find (λ q. bytes_eq q.token token) ps ≡ Some p → find (λ q. bytes_eq q.token token) s.projects ≡ Some p
found_again s token p ps all is =
    let its = has_find (λ q. bytes_eq q.token token) p ps is in
    subst (λ t. find (λ q. bytes_eq q.token t) s.projects ≡ Some p) ((bytes_eq-Decides p.token token).0 its.1) (has_from_all (IsFound s) p ps all its.0)
