use Rattle.std.proofs.Common.{◌≡◌, ◌⊎◌, ⊎_elim, ℕ, ◌<◌, ◌∙◌, refl, sym, subst, inl, inr, arith}
use Rattle.std.proofs.lemmas.Bool.{true≢false}
use Rattle.sqlite.specs.Store.{Ghosts}
use Rattle.ci_machine.specs.declared.reply.Code.{Code}
use Rattle.ci_machine.specs.declared.reply.Swept.{Swept}
use Rattle.ci_machine.specs.declared.reply.Swept.TheVariants.{Ended, Cancelled, Nothing, Refused}
use Rattle.ci_server.specs.Prelude.{FindsNothingDue, ServerOver}
use Rattle.ci_server.proofs.Due.{LeavesReached, one_more, nothing_more}
use Rattle.ci_http.specs.Sweeping.{DidSomething, Sweeps, Clears, none, more, SweepsUpTo, found_nothing, was_refused}
use Rattle.ci_http.proofs.sweep.sweep_all.Goals as goal

-- one that did something wasn't refused
not_refused : (swept : Swept) → DidSomething swept → (code : Code) → swept ≡ Refused code → ⊥
not_refused (Ended attempt cause) did code e = cc
not_refused (Cancelled pipeline) did code e = cc
not_refused Nothing did code e = absurd did
not_refused (Refused why) did code e = absurd did

-- a sweep that did nothing found nothing or was refused
did_nothing : (swept : Swept) → (DidSomething swept → ⊥) → (swept ≡ Nothing) ⊎ ((code : Code) × (swept ≡ Refused code))
did_nothing (Ended attempt cause) isnt = absurd (isnt tt)
did_nothing (Cancelled pipeline) isnt = absurd (isnt tt)
did_nothing Nothing isnt = inl refl
did_nothing (Refused why) isnt = inr (why, refl)

module _ {S L : Type 0} (g : Ghosts S) (tells : L → Swept → L → Type 0) (moment : ℕ) where
  -- so many sweeps come to a state that a history leads to
  after_sweeps : (old : ServerOver S) (log : L) (n : ℕ) (new : ServerOver S) (last : L) → Clears g tells moment old log n new last → LeavesReached g moment old new
  after_sweeps old log _ _ _ none = λ honest s reached held. (s, reached, held)
  after_sweeps old log _ _ _ (more n mid new told last swept before sweeps did tell) =
      one_more g moment old mid new swept (after_sweeps old log n mid told before) sweeps (not_refused swept did)

  -- how it ends where a sweep does nothing
  ends : (most : ℕ) (old : ServerOver S) (n : ℕ) (mid new : ServerOver S) (log last : L) (swept : Swept) → n < most → Clears g tells moment old log n mid last
      → Sweeps g moment mid swept new → (swept ≡ Nothing → FindsNothingDue g moment mid new) → (DidSomething swept → ⊥)
      → SweepsUpTo g tells moment most old new log last
  ends most old n mid new log last swept less before sweeps nothing isnt =
      ⊎_elim
      (λ is.
      let found : Sweeps g moment mid Nothing new = subst (λ (d : Swept). Sweeps g moment mid d new) is sweeps in
      found_nothing n mid less before found (nothing_more g moment old mid new (after_sweeps old log n mid last before) found (nothing is)))
      (λ is. was_refused n mid is.0 less before (subst (λ (d : Swept). Sweeps g moment mid d new) is.1 sweeps))
      (did_nothing swept isnt)

pub loop-init : goal.loop-init
loop-init g c = none

-- a sweep did nothing
pub returns-then-not-did_something : goal.returns-then-not-did_something
returns-then-not-did_something g c =
    let test = c.loop-test.true in
    ends g.S.Store g.L.Log.tells c.args.moment 1000 c.args.server.now c.loop.counter c.loop.server c.sweep-swept.new.self c.args.log.now c.loop.log c.sweep-swept.result (omega arith) c.loop.invariant c.sweep-swept.ensures.swept
    c.sweep-swept.ensures.nothing
    (λ did. true≢false (sym (c.did_something.ensures.1 did) ∙ c.if-not-did_something.true))

pub loop-preserved : goal.loop-preserved
loop-preserved g c =
    more c.loop.counter c.loop.server c.sweep-swept.new.self c.loop.log c.tell.new.self c.sweep-swept.result c.loop.invariant c.sweep-swept.ensures.swept
    (c.did_something.ensures.0 c.if-not-did_something.false) c.tell.ensures
