-- Blanks of ledgers.
use Rattle.std.specs.Prelude.{◌≡◌, ℕ, ◌<◌}

-- a blank of this name and of so many parts opens the whole book of the ledger with this name and so many parts, at least one
pub record OpensWhole (blank parts ledger ledger_parts : ℕ) : Type 0 where
  pub name : blank ≡ ledger
  pub parts_same : parts ≡ ledger_parts
  pub some : 0 < parts
