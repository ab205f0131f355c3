-- Values of one kind; a value of another kind is K4.
use Rattle.std.specs.Prelude.{ℕ, ℤ, pos, negsuc, Bool, true, false, List, [], ◌∷◌, length, Option, Some, None, Result, Ok, nat_lt, nat_le, if◌then◌else◌}
use Rattle.std.specs.Fmt.{signed_decimal}
use Rattle.ci_yaml_lines.specs.Prelude.{is_name, is_variable_name, duration_of, sequence, mapping, Value, boolean, number, text, node, Members, no_members, member}
use Rattle.ci_config.specs.Fault.{Fault, K4, K10, K11, K12, K16, Placed}
use Rattle.ci_config.specs.Reading.{◌>>=◌, fails, demand, or_fault, each}
use Rattle.ci_config.specs.declared.limits.TheConstants.{MAX_VARIABLES}

abbrev pub items_in : Members → List Value
items_in no_members = []
items_in (member name v ms) = v ∷ items_in ms

abbrev pub pairs_in : Members → List (List ℕ × Value)
pairs_in no_members = []
pairs_in (member name v ms) = (name, v) ∷ pairs_in ms

abbrev pub is_text : Value → Bool
is_text (text bs) = true
is_text _ = false

abbrev pub is_bool : Value → Bool
is_bool (boolean b) = true
is_bool _ = false

abbrev pub is_number : Value → Bool
is_number (number n) = true
is_number _ = false

abbrev pub is_map : Value → Bool
is_map (node mapping ms) = true
is_map _ = false

abbrev pub text_of : Value → Result (List ℕ) Placed
text_of (text bs) = Ok bs
text_of _ = fails K4

abbrev pub bool_of : Value → Result Bool Placed
bool_of (boolean b) = Ok b
bool_of _ = fails K4

abbrev pub number_of : Value → Result ℤ Placed
number_of (number n) = Ok n
number_of _ = fails K4

abbrev pub list_of : Value → Result (List Value) Placed
list_of (node sequence ms) = Ok (items_in ms)
list_of _ = fails K4

abbrev pub map_of : Value → Result (List (List ℕ × Value)) Placed
map_of (node mapping ms) = Ok (pairs_in ms)
map_of _ = fails K4

-- ---- single values

-- a text, or a number as its decimal text
abbrev pub plain_of : Value → Result (List ℕ) Placed
plain_of (text bs) = Ok bs
plain_of (number n) = Ok (signed_decimal n)
plain_of _ = fails K4

abbrev pub name_of : Value → Result (List ℕ) Placed
name_of v = text_of v >>= λ bs. demand (is_name bs) K16 (Ok bs)

-- a number from 0 up to a limit
abbrev pub up_to : ℕ → ℤ → Option ℕ
up_to limit (pos n) = if nat_le n limit then Some n else None
up_to limit (negsuc n) = None

-- and else this fault
abbrev pub number_up_to : ℕ → Fault → Value → Result ℕ Placed
number_up_to limit fault v = number_of v >>= λ n. or_fault (up_to limit n) fault

-- how many seconds a text lasts
abbrev pub lasting : List ℕ → Result ℕ Placed
lasting bs = or_fault (duration_of bs) K10

abbrev pub timeout_of : Value → Result ℕ Placed
timeout_of v = text_of v >>= lasting

-- ---- lists of texts, and variables: at one item the least code counts

abbrev pub text_in : ℕ → List (List ℕ) → Value → Result (List ℕ) Placed
text_in limit before v = text_of v >>= λ bs. demand (nat_lt (length before) limit) K11 (Ok bs)

abbrev pub texts_of : ℕ → Value → Result (List (List ℕ)) Placed
texts_of limit v = list_of v >>= λ vs. each (text_in limit) [] vs

abbrev pub name_in : ℕ → List (List ℕ) → Value → Result (List ℕ) Placed
name_in limit before v = text_of v >>= λ bs. demand (nat_lt (length before) limit) K11 (demand (is_name bs) K16 (Ok bs))

abbrev pub names_of : ℕ → Value → Result (List (List ℕ)) Placed
names_of limit v = list_of v >>= λ vs. each (name_in limit) [] vs

abbrev pub variable_in : List (List ℕ × List ℕ) → List ℕ × Value → Result (List ℕ × List ℕ) Placed
variable_in before m = plain_of m.1 >>= λ value. demand (nat_lt (length before) MAX_VARIABLES) K11 (demand (is_variable_name m.0) K12 (Ok (m.0, value)))

abbrev pub variables_of : Value → Result (List (List ℕ × List ℕ)) Placed
variables_of v = map_of v >>= λ ms. each variable_in [] ms
