-- Bytes that hold a whole request, or what is refused as one.
use Rattle.std.specs.Prelude.{◌≢◌, ℕ, List}
use Rattle.ci_http_messages.specs.Reading.{Reading, ended, IsReading}

-- the bytes don't end before a request does
abbrev pub IsWhole : List ℕ → Type 0
IsWhole bytes = (reading : Reading) × (rest : List ℕ) × (reading ≢ ended) × IsReading bytes reading rest
