-- All that holds of every state that a history leads to.
use Rattle.ci_machine_laws.proofs.Prelude.{◌≡◌, true, false, Contains, rules, ◌⊎◌, List, [], ◌∷◌, map, refl, sym, subst, inl, inr, ⊎_elim, arith, Has, has_filter, All-from_has}
use Rattle.ci_machine_laws.proofs.Prelude.{contains_from_has, has_from_contains, has_map}
use Rattle.ci_machine_steps.specs.Prelude.{is_live, WentWithItsJob, is_grant, GivesInOrder, BoardRow, Attempt, State, empty, AreBoard, Past, Leads, grants, WasGranted, EndsStay}
use Rattle.ci_machine_steps.specs.Prelude.{Stay, Stays, Laws}
use Rattle.ci_machine_laws.proofs.Included.{was_included}
use Rattle.ci_machine_laws.proofs.Grants.{WasGiven, one_lease}
use Rattle.ci_machine_laws.proofs.Reached.{reached}
use Rattle.ci_machine_laws.proofs.Left.{KeptOr, Since}
use Rattle.ci_machine_laws.proofs.Held.{is_linked, held}
use Rattle.ci_machine_laws.proofs.Groups.{one_in_group}

stay : {A : Type 0} (f : A → A) (HasGone : A → Type 0) (xs ys : List A) → KeptOr f HasGone xs ys → Stay f HasGone xs ys
stay f HasGone xs ys k = All-from_has _ xs (λ x m. ⊎_elim
    (λ y. inl (contains_from_has (f x) (map f ys) (subst (λ w. Has w (map f ys)) y.1.1 (has_map f y.0 ys y.1.0))))
    (λ g. inr g)
    (k x m))

stays_from : (h : List Past) (s t : State) → Since h s t → Stays h s t
stays_from h s t l = search (rules, stay)

-- the rows of nothing
no_rows : AreBoard empty []
no_rows = record {
  keys = refl;
  each = λ pipeline. record { is = λ i l. absurd (omega arith); each = λ i l. absurd (omega arith) };
}

settled : (h : List Past) (s : State) → Leads h s → (board : List BoardRow) × AreBoard s board
settled [] s l = subst (λ (w : State). (board : List BoardRow) × AreBoard w board) (sym l) ([], no_rows)
settled (p ∷ h) s l = (l.1.after, l.1.are_after)

-- each attempt was granted to the least eligible job, which its rules had included
granted : (h : List Past) (s : State) → Leads h s → (a : Attempt) → WasGiven h a → WasGranted h a
granted h s leads a w =
    let before = (has_filter (grants a.id) w.line h (subst (Has w.line) (sym w.once) (inl refl))).0 in
    let was_included = was_included h s leads w.line before w.job (has_from_contains w.job w.line.before.jobs w.eligible.is_job) in
    search rules

ended : (h : List Past) (s : State) → Leads h s → (p : Past) → Has p h → EndsStay h p.before s
ended h s leads p k = All-from_has (λ (a : Attempt). is_live a ≡ false → Contains s.attempts a ⊎ WentWithItsJob h a) p.before.attempts
    (λ a m l. ⊎_elim (λ n. inl (contains_from_has a s.attempts n)) (λ w. inr w.0) ((reached h s leads).ends p k a m l))

-- all the laws
pub laws : (h : List Past) (s : State) → Leads h s → Laws h s
laws h s leads =
    let i = reached h s leads in
    let held = held h s leads in
    let in_group = one_in_group h s leads in
    let ends_stay = All-from_has (λ (p : Past). EndsStay h p.before s) h (ended h s leads) in
    let in_order = All-from_has (λ (p : Past). is_grant p.event p.answer ≡ true → GivesInOrder p.before p.answer) h held.in_order in
    search (rules, All-from_has, one_lease, granted, i.grants.granted, i.traces.traced, stays_from, held.stays, is_linked, settled, held.swept, held.pruned)
