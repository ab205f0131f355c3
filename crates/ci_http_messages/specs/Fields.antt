-- The values of a field's name.
use Rattle.std.specs.Prelude.{◌≡◌, ◌<◌, ℕ, Bool, List, [], ◌∷◌, length, map, filter}
use Rattle.std.specs.Str.{str_eq_ignore_ascii_case}
use Rattle.ci_http_messages.specs.declared.fields.Found.{Found}
use Rattle.ci_http_messages.specs.declared.fields.Found.TheVariants.{Absent, Once, Twice}

-- the field has this name, whatever the case of its letters
abbrev pub is_named : List ℕ → List ℕ × List ℕ → Bool
is_named name field = str_eq_ignore_ascii_case field.0 name

-- the values of the fields of this name
abbrev pub values_of : List ℕ → List (List ℕ × List ℕ) → List (List ℕ)
values_of name fields = map (λ field. field.1) (filter (is_named name) fields)

-- these are the values: none, this one, or more
abbrev pub Shows : Found → List (List ℕ) → Type 0
Shows Absent values = values ≡ []
Shows (Once value) values = values ≡ value.now ∷ []
Shows Twice values = 1 < length values
