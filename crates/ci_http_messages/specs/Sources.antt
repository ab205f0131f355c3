-- What a reader tells of its bytes, and how many calls of a reader or a writer failed.
use Rattle.std.specs.Prelude.{◌≡◌, ◌≢◌, ◌+◌, ℕ, List, Option, Some, None, ⊤}
use Rattle.std.specs.Io.KnownBytes.{Consumes}

-- where the reader tells its bytes: P of these, and of those that it has left afterwards
abbrev pub Tells : Option (List ℕ) → Option (List ℕ) → (List ℕ → List ℕ → Type 0) → Type 0
Tells None new P = ⊤
Tells (Some bytes) None P = ⊥
Tells (Some bytes) (Some rest) P = P bytes rest

-- the reader took a beginning of its bytes, and no others
abbrev pub TakesFront : Option (List ℕ) → Option (List ℕ) → Type 0
TakesFront old new = (taken : List ℕ) × Consumes old new taken

-- by the counts of failed calls before and after: one call failed if the result is this one, and none if it is another
pub record Fails {A : Type 0} (result failure : A) (old new : ℕ) : Type 0 where
  pub failed : result ≡ failure → new ≡ old + 1
  pub other : result ≢ failure → new ≡ old
