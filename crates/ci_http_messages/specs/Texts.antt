-- The bodies that carry one text: a token, the value of a variable, a CI file.
use Rattle.std.specs.Prelude.{ℕ, List, if◌then◌else◌, Option, Some, None, option_and_then, codes}
use Rattle.std.specs.Str.{is_utf8}
use Rattle.serde_json.specs.Data.{Data}
use Rattle.serde_json.specs.Find.{get}
use Rattle.ci_http_messages.specs.Json.{object_in, text_of, text_or_empty}

-- a token, by the member `token`; no token is the empty text, which one that is missing counts as
abbrev pub token_of : Option Data → Option (List ℕ)
token_of token = text_or_empty token

-- the token in a body
abbrev pub token_in : List ℕ → Option (List ℕ)
token_in body = option_and_then (λ object. token_of (get (codes "token") object)) (object_in body)

-- the value of a variable, by the member `value`
abbrev pub value_of : Option Data → Option (List ℕ)
value_of value = text_of value

-- the value of a variable in a body
abbrev pub value_in : List ℕ → Option (List ℕ)
value_in body = option_and_then (λ object. value_of (get (codes "value") object)) (object_in body)

-- the CI file that a body is: any text
abbrev pub file_in : List ℕ → Option (List ℕ)
file_in body = if is_utf8 body then Some body else None
