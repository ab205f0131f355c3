-- Heads of requests, for worked examples.
use Rattle.std.specs.Prelude.{ℕ, zero, suc, List, [], ◌++◌, codes}

-- so many fields
abbrev pub fields : ℕ → List ℕ
fields zero = []
fields (suc n) = codes "a:b\r\n" ++ fields n

-- a head with so many fields
abbrev pub with_fields : ℕ → List ℕ
with_fields n = codes "GET / HTTP/1.1\r\n" ++ fields n ++ codes "\r\n"
