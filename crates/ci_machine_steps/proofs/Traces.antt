-- The traces of attempts, where bytes go behind one of them.
use Rattle.std.proofs.Common.{◌≡◌, ◌⊎◌, ℕ, Bool, ◌==◌, List, [], ◌∷◌, ◌++◌, find, Some, refl, sym, ap, ◌∙◌, inl, inr, ⊎_elim}
use Rattle.std.proofs.lemmas.Bool.{cond-false, ne_eqb}
use Rattle.ci_machine_steps.specs.Prelude.{Trace, trace_cmp, bytes_or_none, trace_in, with_bytes}
use Rattle.ci_machine.proofs.Keyed.{Has, has_put}
use Rattle.ci_machine.proofs.Found.{put_other, put_same}

-- ---- the traces

abbrev is_at : ℕ → Trace → Bool
is_at n t = t.attempt == n

-- none of these is of the attempt n
pub no_trace : (n : ℕ) (traces : List Trace) → ((t : Trace) → Has t traces → t.attempt ≡ n → ⊥) → trace_in n traces ≡ []
no_trace n [] none = refl
no_trace n (t ∷ traces) none =
    ap bytes_or_none (cond-false (is_at n t) (Some t) (find (is_at n) traces) (ne_eqb t.attempt n (none t (inl refl)))) ∙ no_trace n traces (λ u k. none u (inr k))

-- where bytes go behind a trace, it has them at its end
pub its_trace : (t : Trace) (n : ℕ) (traces : List Trace) → t.attempt ≡ n → trace_in n (with_bytes t traces) ≡ trace_in n traces ++ t.bytes
its_trace t n traces e =
    let grown : Trace = record t { bytes = trace_in t.attempt traces ++ t.bytes } in
    ap bytes_or_none (put_same (λ (u : Trace). u.attempt) grown n traces (sym e)) ∙ ap (λ m. trace_in m traces ++ t.bytes) e

-- the trace of another attempt stays
pub other_trace : (t : Trace) (n : ℕ) (traces : List Trace) → (t.attempt ≡ n → ⊥) → trace_in n (with_bytes t traces) ≡ trace_in n traces
other_trace t n traces d =
    ap bytes_or_none (put_other (λ (u : Trace). u.attempt) (record t { bytes = trace_in t.attempt traces ++ t.bytes }) n traces (λ e. d (sym e)))

-- each trace then is of that attempt, or was there before
pub traces_then : (t u : Trace) (traces : List Trace) → Has u (with_bytes t traces) → (u.attempt ≡ t.attempt) ⊎ Has u traces
traces_then t u traces k =
    ⊎_elim (λ e. inl (ap (λ (v : Trace). v.attempt) e)) (λ m. inr m) (has_put trace_cmp (record t { bytes = trace_in t.attempt traces ++ t.bytes }) u traces k)
