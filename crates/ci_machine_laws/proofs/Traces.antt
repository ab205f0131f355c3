-- Traces in every state that a history leads to.
use Rattle.ci_machine_laws.proofs.Prelude.{◌≡◌, ◌⊎◌, ℕ, ◌<◌, ◌≤◌, ◌==◌, List, [], ◌∷◌, ◌++◌, if◌then◌else◌, refl, sym, ap, subst, ◌∙◌, inl, ⊎_elim, arith, eq-eqb, cond-true}
use Rattle.ci_machine_laws.proofs.Prelude.{cond-false, append-nil, Has, Named, has_put_other, different, no_trace, its_trace, other_trace, traces_then}
use Rattle.std.proofs.lemmas.Bool.{ne_eqb}
use Rattle.ci_machine_steps.specs.Prelude.{Attempt, Trace, State, attempt_cmp, put, trace_in, with_bytes, trace_of, Past, accepted_bytes, all_accepted, IsTraced}

pub record Traces (h : List Past) (s : State) : Type 0 where
  -- no trace is of an attempt that is still to come
  pub below : (t : Trace) → Has t s.traces → t.attempt < s.next.attempt
  pub traced : (a : Attempt) → Has a s.attempts → IsTraced h s a
  -- no line has bytes of an attempt that is still to come
  pub quiet : (n : ℕ) → s.next.attempt ≤ n → all_accepted n h ≡ []

-- the attempt was there
abbrev pub Was : State → Attempt → Type 0
Was s b = Named (λ a. a.id) b.id s.attempts

-- it is new
abbrev pub IsNew : State → Attempt → Type 0
IsNew s b = s.next.attempt ≤ b.id

pub same : (s : State) (b : Attempt) → Has b s.attempts → Was s b ⊎ IsNew s b
same s b k = inl (b, (k, refl))

no_more : (n : ℕ) (p : Past) (h : List Past) → accepted_bytes n p.event p.answer ≡ [] → all_accepted n (p ∷ h) ≡ all_accepted n h
no_more n p h e = ap (λ l. all_accepted n h ++ l) e ∙ append-nil (all_accepted n h)

none_yet : (h : List Past) (s : State) (n : ℕ) → Traces h s → s.next.attempt ≤ n → trace_of s n ≡ []
none_yet h s n i l = no_trace n s.traces (λ t k e. let b : t.attempt < s.next.attempt = i.below t k in absurd (omega arith))

-- a step that accepts no bytes, and leaves each attempt its trace
pub stays : (h : List Past) (s t : State) (p : Past) → Traces h s → ((n : ℕ) → accepted_bytes n p.event p.answer ≡ []) → ((u : Trace) → Has u t.traces → Has u s.traces)
    → ((b : Attempt) → Has b t.attempts → trace_of t b.id ≡ trace_of s b.id) → s.next.attempt ≤ t.next.attempt → ((b : Attempt) → Has b t.attempts → Was s b ⊎ IsNew s b) → Traces (p ∷ h) t
stays h s t p i none were its f cases = record {
  below = λ u k. omega (arith, i.below u (were u k));
  traced = λ b k.
      its b k
      ∙ (⊎_elim (λ w. subst (λ n. trace_of s n ≡ all_accepted n h) w.1.1 (i.traced w.0 w.1.0)) (λ w. none_yet h s b.id i w ∙ sym (i.quiet b.id w)) (cases b k)
      ∙ sym (no_more b.id p h (none b.id)));
  quiet = λ n l. no_more n p h (none n) ∙ i.quiet n (omega arith);
}

-- a step that accepts these bytes of the attempt a, in whose place x stands then
pub grows : (h : List Past) (s t : State) (p : Past) (a x : Attempt) (bytes : List ℕ) → Traces h s → Has a s.attempts → a.id < s.next.attempt → x.id ≡ a.id
    → ((n : ℕ) → accepted_bytes n p.event p.answer ≡ (if a.id == n then bytes else []))
    → t.traces ≡ with_bytes (record { attempt = a.id; bytes = bytes }) s.traces → t.attempts ≡ put attempt_cmp x s.attempts → t.next.attempt ≡ s.next.attempt → Traces (p ∷ h) t
grows h s t p a x bytes i has known same_id accepted e f g =
    let new : Trace = record { attempt = a.id; bytes = bytes } in
    let no_bytes : (n : ℕ) → (a.id ≡ n → ⊥) → accepted_bytes n p.event p.answer ≡ [] = λ n d. accepted n ∙ cond-false (a.id == n) bytes [] (ne_eqb a.id n d) in
    let its : (n : ℕ) → a.id ≡ n → trace_of t n ≡ all_accepted n (p ∷ h) = λ n m.
    ap (trace_in n) e ∙ (its_trace new n s.traces m ∙ (ap (λ l. l ++ bytes) (subst (λ k. trace_of s k ≡ all_accepted k h) m (i.traced a has))
    ∙ ap (λ l. all_accepted n h ++ l) (sym (accepted n ∙ cond-true (a.id == n) bytes [] (eq-eqb a.id n m))))) in
    let other : (b : Attempt) → Has b s.attempts → (a.id ≡ b.id → ⊥) → IsTraced (p ∷ h) t b = λ b k d.
    ap (trace_in b.id) e ∙ (other_trace new b.id s.traces d ∙ (i.traced b k ∙ sym (no_more b.id p h (no_bytes b.id d)))) in
    record {
      below = λ u k. subst (λ n. u.attempt < n) (sym g) (⊎_elim (λ m. let l : u.attempt ≡ a.id = m in omega arith) (λ m. i.below u m) (traces_then new u s.traces (subst (Has u) e k)));
      traced = λ b k. ⊎_elim
          (λ w. its b.id (sym (ap (λ (c : Attempt). c.id) w ∙ same_id)))
          (λ w. other b w.0 (λ m. different b.id x.id w.1 (sym m ∙ sym same_id)))
          (has_put_other attempt_cmp x b s.attempts (subst (Has b) f k));
      quiet = λ n l. let m : s.next.attempt ≤ n = subst (λ w. w ≤ n) g l in no_more n p h (no_bytes n (λ d. absurd (omega arith))) ∙ i.quiet n m;
    }
