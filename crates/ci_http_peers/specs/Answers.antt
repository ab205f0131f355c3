-- What is answered to requests.
use Rattle.std.specs.Prelude.{ℕ, List, Option, Some, None, Result, Ok, Err}
use Rattle.std.specs.Global.{Vec}

-- the bytes of an answer, where there is one
abbrev pub text_of : {E : Type 0} → Result (Option (Vec ℕ)) E → Option (List ℕ)
text_of (Ok (Some text)) = Some text.items
text_of (Ok None) = None
text_of (Err why) = None
