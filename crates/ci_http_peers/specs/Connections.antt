-- What becomes of a connection, by what one call on it gives.
use Rattle.std.specs.Prelude.{◌≡◌, ◌≢◌, ◌≤◌, ◌<◌, ◌⊎◌, ◌↔◌, ℕ, ◌+◌, suc, zero, min, List, ◌++◌, length, take, Option, Some, None, Bool, Result, Ok, Err, IsTrue}
use Rattle.std.specs.IoError.{error_kind}
use Rattle.std.specs.declared.io.Error.{Error}
use Rattle.std.specs.declared.io.ErrorKind.{ErrorKind}
use Rattle.std.specs.declared.io.ErrorKind.TheVariants.{WouldBlock, Interrupted}
use Rattle.ci_http_peers.specs.declared.chair.Chair.{Chair}
use Rattle.ci_http_peers.specs.declared.chair.Step.{Step}
use Rattle.ci_http_peers.specs.declared.chair.TheConstants.{MAX_DRAINED_BYTES}

-- after a call that failed so: one that would have waited waits, one that was interrupted is tried again, and after any other the
-- connection is over
abbrev pub AfterError : ErrorKind → Step → Type 0
AfterError kind s =
    (kind ≡ WouldBlock → s ≡ Step.Waits) × (kind ≡ Interrupted → s ≡ Step.Again)
    × (kind ≢ WouldBlock → kind ≢ Interrupted → s ≡ Step.Over)

-- how many bytes a request takes: once that is known it stays; else it is what is said of all the bytes that came
abbrev pub Learns : (List ℕ → Option ℕ → Type 0) → List ℕ → Option ℕ → Option ℕ → Type 0
Learns says bytes (Some due) new = new ≡ Some due
Learns says bytes None new = says bytes new

-- so many bytes of a request have come, and it takes so many, if that is known: it is whole where they are enough, and just that
-- where none came behind it; else more must come
abbrev pub IsEnough : Option ℕ → ℕ → Bool → Bool → Step → Type 0
IsEnough None len exact_old exact s = (s ≡ Step.Again) × (exact ≡ exact_old)
IsEnough (Some due) len exact_old exact s =
    (due ≤ len → (s ≡ Step.Whole) × (IsTrue exact ↔ (due ≡ len)))
    × (len < due → (s ≡ Step.Again) × (exact ≡ exact_old))

module _ {W : Type 0} (old new : Chair W) (s : Step) where
  -- nothing of the connection has changed but its wire
  abbrev pub IsAsBefore : Type 0
  IsAsBefore =
      (new.bytes.items ≡ old.bytes.items) × (new.count ≡ old.count) × (new.due ≡ old.due) × (new.is_exact ≡ old.is_exact)
      × (new.is_heard ≡ old.is_heard)

  -- bytes of a request came, so many of these; where memory for them is refused the connection is over
  abbrev pub Gathers : (List ℕ → Option ℕ → Type 0) → List ℕ → Type 0
  Gathers says came =
      ((s ≡ Step.Over) × IsAsBefore)
      ⊎ ((new.bytes.items ≡ old.bytes.items ++ came) × Learns says new.bytes.items old.due new.due
      × IsEnough new.due (length new.bytes.items) old.is_exact new.is_exact s × (new.count ≡ old.count) × (new.is_heard ≡ old.is_heard))

  -- bytes of a request were asked for, and this was got: where its peer sends no more the connection is over
  abbrev pub Reads : (List ℕ → Option ℕ → Type 0) → Result ℕ Error → List ℕ → Type 0
  Reads says (Err why) buffer = AfterError (error_kind why) s × IsAsBefore
  Reads says (Ok zero) buffer = (s ≡ Step.Over) × IsAsBefore
  Reads says (Ok (suc n)) buffer = Gathers says (take (suc n) buffer)

  -- the same, but for how many bytes of a reply went, or came after it
  abbrev pub IsAsBeforeBut : ℕ → Type 0
  IsAsBeforeBut count =
      (new.bytes.items ≡ old.bytes.items) × (new.count ≡ count) × (new.due ≡ old.due) × (new.is_exact ≡ old.is_exact)
      × (new.is_heard ≡ old.is_heard)

  -- these bytes of a reply were left and were offered, and so many were taken: none, and the connection is over; some, and there are
  -- more; or all
  abbrev pub Writes : List ℕ → Result ℕ Error → Type 0
  Writes rest (Err why) = AfterError (error_kind why) s × IsAsBefore
  Writes rest (Ok zero) = (s ≡ Step.Over) × IsAsBefore
  Writes rest (Ok (suc n)) =
      (suc n < length rest → (s ≡ Step.Again) × IsAsBeforeBut (min (old.count + suc n) 18446744073709551615))
      × (length rest ≤ suc n → (s ≡ Step.Went) × IsAsBefore)

  -- what comes after a reply was asked for, and this was got: where the peer sends no more, or has sent too much, the connection is over
  abbrev pub Drains : Result ℕ Error → Type 0
  Drains (Err why) = AfterError (error_kind why) s × IsAsBefore
  Drains (Ok zero) = (s ≡ Step.Over) × IsAsBefore
  Drains (Ok (suc n)) =
      IsAsBeforeBut (min (old.count + suc n) 18446744073709551615)
      × (old.count + suc n < MAX_DRAINED_BYTES → s ≡ Step.Again) × (MAX_DRAINED_BYTES ≤ old.count + suc n → s ≡ Step.Over)
