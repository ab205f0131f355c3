-- That no lease is over for a while, through puts of attempts and changes of jobs.
use Rattle.std.proofs.Common.{◌≡◌, ℕ, ◌==◌, ◌+◌, ◌<◌, Bool, true, false, List, [], ◌∷◌, All, length, take, slice_index_or, find, filter, Some, None, refl, sym, subst, ◌∙◌, ⊎_elim}
use Rattle.std.proofs.Common.{inl, inr, arith}
use Rattle.std.proofs.lemmas.Bool.{cond-false}
use Rattle.std.proofs.lemmas.List.Elements.{All-more, All-weaker}
use Rattle.ci_machine_steps.specs.Prelude.{Lease, Attempt, Job, Record, State, attempt_cmp, with_record, is_live, is_over, first_due, job_at, lease_of, leases, limit_or_none}
use Rattle.ci_machine_steps.specs.Prelude.{live_attempts}
use Rattle.ci_machine.proofs.Keyed.{Has, has_put, has_filter, filter_has, has_map, map_has, has_from_all, All-from_has}
use Rattle.ci_memory.specs.declared.leases.Quiet.{Quiet}
use Rattle.ci_memory.specs.Quiet.{IsQuiet, IsWithin, IsWider}

-- said of each live attempt
pub within : (q : Quiet) (s : State) → IsQuiet q s → (a : Attempt) → Has a s.attempts → is_live a ≡ true → IsWithin q (lease_of s a)
within q s quiet a h live = has_from_all (IsWithin q) (lease_of s a) (leases s) quiet (has_map (lease_of s) a (live_attempts s) (filter_has is_live a s.attempts h live))

pub from_within : (q : Quiet) (s : State) → ((a : Attempt) → Has a s.attempts → is_live a ≡ true → IsWithin q (lease_of s a)) → IsQuiet q s
from_within q s all =
    All-from_has (IsWithin q) (leases s)
    (λ l h.
    let w = map_has (lease_of s) l (live_attempts s) h in
    let v = has_filter is_live w.0 s.attempts w.1.0 in
    subst (λ (x : Lease). IsWithin q x) w.1.1 (all w.0 v.0 v.1))

-- what is within the one is within the wider one
wider : (q wide : Quiet) (l : Lease) → IsWider q wide → IsWithin q l → IsWithin wide l
wider q wide l w is = (omega arith, omega arith)

-- a lease more is within, and so are those before it
pub all_more : (q wide : Quiet) (ls : List Lease) (i : ℕ) (l : Lease) → i < length ls → l ≡ slice_index_or ls i l → All (IsWithin q) (take i ls) → IsWider q wide → IsWithin wide l → All (IsWithin wide) (take (i + 1) ls)
all_more q wide ls i l inside at all w is =
    All-more (IsWithin wide) ls i l inside (All-weaker (IsWithin q) (IsWithin wide) (λ x. wider q wide x w) (take i ls) all) (subst (λ (x : Lease). IsWithin wide x) at is)

-- an attempt is put whose lease is within, if it is live
pub quiet_put : (q wide : Quiet) (a : Attempt) (s : State) → IsQuiet q s → IsWider q wide → (is_live a ≡ true → IsWithin wide (lease_of s a)) → IsQuiet wide (with_record (Record.Attempt a) s)
quiet_put q wide a s quiet w new =
    from_within wide (with_record (Record.Attempt a) s)
    (λ b h live. ⊎_elim
    (λ e. subst (λ (x : Attempt). IsWithin wide (lease_of s x)) (sym e) (new (subst (λ (x : Attempt). is_live x ≡ true) e live)))
    (λ m. wider q wide (lease_of s b) w (within q s quiet b m live))
    (has_put attempt_cmp a b s.attempts h))

-- attempts go
pub quiet_fewer : (q : Quiet) (keep : Attempt → Bool) (s : State) → IsQuiet q s → IsQuiet q (record s { attempts = filter keep s.attempts })
quiet_fewer q keep s quiet = from_within q (record s { attempts = filter keep s.attempts }) (λ a h live. within q s quiet a (has_filter keep a s.attempts h).0 live)

-- jobs change, and those that leases may be on have the limits that they had
pub quiet_jobs : (q : Quiet) (jobs : List Job) (s : State) → IsQuiet q s → ((n : ℕ) → n < q.below → limit_or_none (find (λ j. j.id == n) jobs) ≡ limit_or_none (job_at s n)) → IsQuiet q (record s { jobs = jobs })
quiet_jobs q jobs s quiet same =
    from_within q (record s { jobs = jobs })
    (λ a h live.
    let w = within q s quiet a h live in
    subst (λ (n : ℕ). IsWithin q (record { attempt = a; limit = n })) (sym (same a.job w.1)) w)

-- none of the leases is over before then
pub none_due : (q : Quiet) (now : ℕ) (ls : List Lease) → now < q.until → All (IsWithin q) ls → first_due ls now ≡ None
none_due q now ls early all = none ls (λ l h. not_over l (has_from_all (IsWithin q) l ls all h))
  where
    not_over : (l : Lease) → IsWithin q l → is_over l.attempt l.limit now ≡ false
    not_over l is = grind (arith, is, early)

    none : (xs : List Lease) → ((l : Lease) → Has l xs → is_over l.attempt l.limit now ≡ false) → find (λ l. is_over l.attempt l.limit now) xs ≡ None
    none [] h = refl
    none (x ∷ xs) h = cond-false (is_over x.attempt x.limit now) (Some x) (find (λ l. is_over l.attempt l.limit now) xs) (h x (inl refl)) ∙ none xs (λ l k. h l (inr k))
