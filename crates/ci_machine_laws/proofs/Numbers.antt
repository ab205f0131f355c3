-- Every state that a history leads to is sound.
use Rattle.ci_machine_laws.proofs.Prelude.{all_from_has, ◌<◌, All, true, Some, rules, ◌≡◌, List, [], ◌∷◌, Ordering, Less, sym, subst, IsTotalOrder, nat_cmp_total, on_total}
use Rattle.ci_machine_laws.proofs.Prelude.{then_total, nat_list_cmp_total, All-from_has, ascend_from_rising, Ordered, filter_ordered, put_ordered}
use Rattle.ci_machine_steps.specs.Prelude.{Job, Attempt, is_live, last_attempt, Need, RowChange, Put, Append, Remove, Record, Key, State, need_cmp, GroupMode, mode_cmp}
use Rattle.ci_machine_steps.specs.Prelude.{with_record, without_record, changed, applied, Past, Leads, IsReached, IsSound}
use Rattle.std.specs.List.Sorted.{IsStrictlySortedBy}
use Rattle.ci_machine_laws.proofs.Grants.{live_last}
use Rattle.ci_machine_laws.proofs.Reached.{reached}
use Rattle.ci_machine_laws.proofs.Held.{held, is_linked}

-- ---- needs and modes stand in their order, whatever changes

need_total : IsTotalOrder need_cmp
need_total = then_total (on_total (λ (w : Need). w.job) nat_cmp_total) (on_total (λ (w : Need). w.pred) nat_cmp_total)

mode_total : IsTotalOrder mode_cmp
mode_total = then_total (on_total (λ (m : GroupMode). m.project) nat_cmp_total) (on_total (λ (m : GroupMode). m.group) nat_list_cmp_total)

abbrev InOrder : State → Type 0
InOrder s = Ordered need_cmp s.needs × Ordered mode_cmp s.modes

recorded : (r : Record) (s : State) → InOrder s → InOrder (with_record r s)
recorded (Record.Need w) s o = (put_ordered need_cmp need_total w s.needs o.0, o.1)
recorded (Record.Mode m) s o = (o.0, put_ordered mode_cmp mode_total m s.modes o.1)
recorded r s o = o

removed : (k : Key) (s : State) → InOrder s → InOrder (without_record k s)
removed (Key.Need n pred) s o = (filter_ordered need_cmp _ s.needs o.0, o.1)
removed (Key.Needs n) s o = (filter_ordered need_cmp _ s.needs o.0, o.1)
removed (Key.Mode n name) s o = (o.0, filter_ordered mode_cmp _ s.modes o.1)
removed k s o = o

changes : (cs : List RowChange) (s : State) → InOrder s → InOrder (applied cs s)
changes [] s o = o
changes (Put r ∷ cs) s o = changes cs (changed (Put r) s) (recorded r s o)
changes (Append t ∷ cs) s o = changes cs (changed (Append t) s) o
changes (Remove k ∷ cs) s o = changes cs (changed (Remove k) s) (removed k s o)

pub in_order : (h : List Past) (s : State) → Leads h s → InOrder s
in_order [] s l = subst InOrder (sym l) (tt, tt)
in_order (p ∷ h) s l = subst InOrder (sym l.1.state) (changes l.1.changes p.before (in_order h p.before l.0))

pub ascend : {A : Type 0} (cmp : A → A → Ordering) (xs : List A) → Ordered cmp xs → IsStrictlySortedBy cmp xs
unfolding IsStrictlySortedBy
ascend cmp [] o = tt
ascend cmp (x ∷ xs) o = (all_from_has (λ y. cmp x y ≡ Less) xs o.0, ascend cmp xs o.1)

-- ---- every state that a history leads to

pub sound_reached : (s : State) → IsReached s → IsSound s
sound_reached s is =
    let h = is.0 in
    let grants = (reached h s is.1).grants in
    let linked = (held h s is.1).linked in
    let ordered = in_order h s is.1 in
    let InTurn : Job → Job → Type 0 = λ a b. a.pipeline < b.pipeline → a.id < b.id in
    let in_turn = All-from_has (λ (a : Job). All (InTurn a) s.jobs) s.jobs (λ a k. All-from_has (InTurn a) s.jobs (λ b m. linked.in_turn a b k m)) in
    let last = All-from_has (λ (a : Attempt). is_live a ≡ true → last_attempt s a.job ≡ Some a) s.attempts (live_last h s grants) in
    search (rules, All-from_has, ascend_from_rising, ascend, linked.pipeline_below, linked.positive, linked.job_below, grants.below, is_linked, linked.aside)
