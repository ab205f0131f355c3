-- The JSON object that a body is, and the texts of its members.
use Rattle.std.specs.Prelude.{◌≡◌, ℕ, true, List, [], if◌then◌else◌, Option, Some, None, option_and_then, is_some}
use Rattle.std.specs.Str.{is_utf8}
use Rattle.serde_json.specs.Data.{Data}
use Rattle.serde_json.specs.Read.{read}
use Rattle.serde_json.specs.Find.{as_object, as_str}

-- the bytes are UTF-8, so that they are read as JSON
abbrev pub MayBeJson : List ℕ → Type 0
MayBeJson body = is_utf8 body ≡ true

-- the JSON value that the bytes write in UTF-8, if they write one
abbrev pub json_of : List ℕ → Option Data
json_of body = if is_utf8 body then read body else None

abbrev pub only_object : Data → Option Data
only_object value = if is_some (as_object value) then Some value else None

-- the JSON object that the bytes write in UTF-8, if they write one
abbrev pub object_in : List ℕ → Option Data
object_in body = option_and_then only_object (json_of body)

-- the text of a member that has to be there
abbrev pub text_of : Option Data → Option (List ℕ)
text_of member = option_and_then as_str member

-- the text of a member that may be missing, and counts as the empty text then
abbrev pub text_or_empty : Option Data → Option (List ℕ)
text_or_empty None = Some []
text_or_empty (Some value) = as_str value
