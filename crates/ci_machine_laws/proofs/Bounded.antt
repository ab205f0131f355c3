-- The numbers of jobs stay within their limit, in every state that a history leads to.
use Rattle.ci_machine_laws.proofs.Prelude.{or_parts, ℕ, rules, Given, created_state, ◌≡◌, ◌+◌, ◌-◌, ◌≤◌, false, nat_lt, List, [], ◌∷◌, length, sym, subst, arith, ltb-false}
use Rattle.ci_machine_laws.proofs.Prelude.{new_length}
use Rattle.ci_machine_steps.specs.Prelude.{NewPipeline, Layout, lacks_numbers, creation, MAX_NUMBER, BoardRow, Event, State, Past, Leads}
use Rattle.ci_machine_laws.proofs.EachNext.{EachNext, next_is}
use Rattle.ci_machine_laws.proofs.Reached.{reached}

-- the next number of a job is at most one above the limit
abbrev pub IsWithinLimit : State → Type 0
IsWithinLimit s = s.next.job ≤ MAX_NUMBER + 1

made : (s : State) (new : NewPipeline) (given : Given) (now : ℕ) (laid : Layout) → lacks_numbers s.next.pipeline s.next.job (length laid.plan.jobs) ≡ false
    → IsWithinLimit (created_state s.next.job (creation s.next.pipeline s.next.job new given now laid) s)
made s new given now laid fits =
    let first = s.next.job in
    let last = first + length laid.plan.jobs - 1 in
    let below : last ≤ MAX_NUMBER = ltb-false MAX_NUMBER last (or_parts (nat_lt MAX_NUMBER s.next.pipeline) (nat_lt MAX_NUMBER last) fits).1 in
    omega (arith, new_length s.next.pipeline first 0 laid.plan.jobs)

stays : (s : State) (board : List BoardRow) (e : Event) → IsWithinLimit s → EachNext s board e (λ _ t. IsWithinLimit t)
stays s board e within = search (rules, made)

pub within_limit : (h : List Past) (s : State) → Leads h s → IsWithinLimit s
within_limit [] s l = subst IsWithinLimit (sym l) (omega arith)
within_limit (p ∷ h) s l =
    let grants = (reached h p.before l.0).grants in
    subst IsWithinLimit (sym l.1.state)
    (next_is p.before l.1.before grants.jobs_rise grants.rise (λ _ t. IsWithinLimit t) p.event p.now p.seed p.answer l.1.changes (stays p.before l.1.before p.event (within_limit h p.before l.0)) l.1.happens)
