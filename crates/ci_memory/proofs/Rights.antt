-- What is remembered of leases stays right where a record changes.
use Rattle.std.proofs.Common.{◌≡◌, ◌≢◌, ◌⊎◌, ◌≤◌, ℕ, not, nat_cmp, is_eq, Option, Some, None, IfSome, option_map, find, ◌==◌, true, refl, sym, ap, subst, ◌∙◌, ⊎_elim, arith}
use Rattle.std.proofs.lemmas.Bool.{cases_eq}
use Rattle.std.proofs.lemmas.Option.{IfSome_then}
use Rattle.ci_machine_steps.specs.Prelude.{Attempt, Job, Record, Key, State, put, without, job_cmp, with_record, without_record, is_live, job_at, limit_or_none}
use Rattle.ci_memory.specs.declared.leases.Leases.{Leases}
use Rattle.ci_memory.specs.declared.leases.Limit.{Limit}
use Rattle.ci_memory.specs.declared.leases.Quiet.{Quiet}
use Rattle.ci_memory.specs.Quiet.{AreRightOf, IsQuiet, IsLimit, IsWithin, IsWider}
use Rattle.ci_machine.proofs.Found.{put_other, put_same, without_other}
use Rattle.ci_memory.proofs.Quiets.{quiet_put, quiet_jobs, quiet_fewer}

pub at_some : {A : Type 0} (P : A → Type 0) (o : Option A) (x : A) → o ≡ Some x → IfSome o P → P x
at_some P o x is p = subst (λ (r : Option _). IfSome r P) is p

-- jobs stand by their numbers
abbrev number : Job → ℕ
number j = j.id

-- a time limit that is right is the one of the job's leases
limit_is : (l : Limit) (s : State) → IsLimit l s → limit_or_none (job_at s l.job) ≡ l.seconds
limit_is l s is = of (job_at s l.job) is
  where
    of : (o : Option Job) → option_map (λ j. j.options.timeout) o ≡ Some l.seconds → limit_or_none o ≡ l.seconds
    of None e = absurd (cc)
    of (Some j) e = cc

-- the time limit of a job
abbrev pub limit_of : Job → Limit
limit_of x = record { job = x.id; seconds = x.options.timeout }

put_is_limit : (x : Job) (s : State) → IsLimit (limit_of x) (with_record (Record.Job x) s)
put_is_limit x s = ap (option_map (λ j. j.options.timeout)) (put_same number x x.id s.jobs refl)

-- a job is put whose time limit is known already, so it has the one that it had
pub put_known : (m : Leases) (x : Job) (s : State) → m.limit ≡ Some (limit_of x) → AreRightOf m s → AreRightOf m (with_record (Record.Job x) s)
put_known m x s is right = record {
  quiet = IfSome_then m.quiet right.quiet (λ q quiet. quiet_jobs q (put job_cmp x s.jobs) s quiet (λ n _. same n));
  limit = subst (λ (o : Option Limit). IfSome o (λ l. IsLimit l (with_record (Record.Job x) s))) (sym is) (put_is_limit x s);
}
  where
    its : limit_or_none (job_at s x.id) ≡ x.options.timeout
    its = limit_is (limit_of x) s (at_some (λ l. IsLimit l s) m.limit (limit_of x) is right.limit)

    same : (n : ℕ) → limit_or_none (find (λ j. j.id == n) (put job_cmp x s.jobs)) ≡ limit_or_none (job_at s n)
    same n =
        ⊎_elim
        (λ (e : x.id ≡ n). subst (λ (k : ℕ). limit_or_none (find (λ j. j.id == k) (put job_cmp x s.jobs)) ≡ limit_or_none (job_at s k)) e (ap limit_or_none (put_same number x x.id s.jobs refl) ∙ sym its))
        (λ d. ap limit_or_none (put_other number x n s.jobs (λ e. d (sym e))))
        (cases_eq x.id n)

-- any other job is put
pub put_job : (m n : Leases) (x : Job) (s : State) → IfSome n.quiet (λ q. (m.quiet ≡ Some q) × (q.below ≤ x.id)) → IfSome n.limit (λ l. (l ≡ limit_of x) ⊎ ((m.limit ≡ Some l) × (l.job ≢ x.id)))
    → AreRightOf m s → AreRightOf n (with_record (Record.Job x) s)
put_job m n x s quiet limit right = record {
  quiet = IfSome_then n.quiet quiet
      (λ q is. quiet_jobs q (put job_cmp x s.jobs) s (at_some (λ p. IsQuiet p s) m.quiet q is.0 right.quiet)
      (λ k small. ap limit_or_none (put_other number x k s.jobs (λ e. let far : q.below ≤ x.id = is.1 in omega arith))));
  limit = IfSome_then n.limit limit
      (λ l is. ⊎_elim
      (λ e. subst (λ (k : Limit). IsLimit k (with_record (Record.Job x) s)) (sym e) (put_is_limit x s))
      (λ w. ap (option_map (λ j. j.options.timeout)) (put_other number x l.job s.jobs w.1) ∙ at_some (λ k. IsLimit k s) m.limit l w.0 right.limit)
      is);
}

-- a job goes
pub without_job : (m n : Leases) (id : ℕ) (s : State) → IfSome n.quiet (λ q. (m.quiet ≡ Some q) × (q.below ≤ id)) → IfSome n.limit (λ l. (m.limit ≡ Some l) × (l.job ≢ id))
    → AreRightOf m s → AreRightOf n (without_record (Key.Job id) s)
without_job m n id s quiet limit right = record {
  quiet = IfSome_then n.quiet quiet
      (λ q is. quiet_jobs q (without (λ j. j.id) id s.jobs) s (at_some (λ p. IsQuiet p s) m.quiet q is.0 right.quiet)
      (λ k small. ap limit_or_none (without_other number id k s.jobs (λ e. let far : q.below ≤ id = is.1 in omega arith))));
  limit = IfSome_then n.limit limit
      (λ l w. ap (option_map (λ j. j.options.timeout)) (without_other number id l.job s.jobs w.1) ∙ at_some (λ k. IsLimit k s) m.limit l w.0 right.limit);
}

-- an attempt is put that isn't live
pub put_ended : (m : Leases) (a : Attempt) (s : State) → (is_live a ≡ true → ⊥) → AreRightOf m s → AreRightOf m (with_record (Record.Attempt a) s)
put_ended m a s ended right = record {
  quiet = IfSome_then m.quiet right.quiet (λ q quiet. quiet_put q q a s quiet (omega arith, omega arith) (λ live. absurd (ended live)));
  limit = right.limit;
}

-- a live one is put, and the time limit of its job is known
pub put_live : (m : Leases) (old : Quiet) (limit : Limit) (a : Attempt) (s : State) (new : Option Quiet) → m.quiet ≡ Some old → m.limit ≡ Some limit → limit.job ≡ a.job
    → IfSome new (λ q. IsWithin q (record { attempt = a; limit = limit.seconds })) → IfSome new (λ q. IsWider old q)
    → AreRightOf m s → IfSome new (λ q. IsQuiet q (with_record (Record.Attempt a) s))
put_live m old limit a s new was known its it others right =
    IfSome_then new (both new it others)
    (λ q is. quiet_put old q a s (at_some (λ p. IsQuiet p s) m.quiet old was right.quiet) is.1
    (λ _. subst (λ (n : ℕ). IsWithin q (record { attempt = a; limit = n })) (sym seconds) is.0))
  where
    seconds : limit_or_none (job_at s a.job) ≡ limit.seconds
    seconds = subst (λ (n : ℕ). limit_or_none (job_at s n) ≡ limit.seconds) its (limit_is limit s (at_some (λ k. IsLimit k s) m.limit limit known right.limit))

    both : (o : Option Quiet) → IfSome o (λ q. IsWithin q (record { attempt = a; limit = limit.seconds })) → IfSome o (λ q. IsWider old q)
        → IfSome o (λ q. IsWithin q (record { attempt = a; limit = limit.seconds }) × IsWider old q)
    both None x y = tt
    both (Some q) x y = (x, y)

-- ---- changes that are of neither

pub record_stays : (r : Record) (m : Leases) (s : State) → ((a : Attempt) → r ≡ Record.Attempt a → ⊥) → ((j : Job) → r ≡ Record.Job j → ⊥) → AreRightOf m s → AreRightOf m (with_record r s)
record_stays (Record.Job x) m s a j right = absurd (j x refl)
record_stays (Record.Attempt x) m s a j right = absurd (a x refl)
record_stays _ m s a j right = record { quiet = right.quiet; limit = right.limit }

-- where an attempt goes, the leases that are left are still within
pub key_stays : (k : Key) (m : Leases) (s : State) → ((n : ℕ) → k ≡ Key.Job n → ⊥) → AreRightOf m s → AreRightOf m (without_record k s)
key_stays (Key.Job n) m s j right = absurd (j n refl)
key_stays (Key.Attempt n) m s j right = record {
  quiet = IfSome_then m.quiet right.quiet (λ q is. quiet_fewer q (λ (a : Attempt). not (is_eq (nat_cmp a.id n))) s is);
  limit = right.limit;
}
key_stays _ m s j right = record { quiet = right.quiet; limit = right.limit }
