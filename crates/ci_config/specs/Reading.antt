-- Reading one after the other, up to the first fault.
use Rattle.std.specs.Prelude.{ℕ, suc, Bool, List, [], ◌∷◌, ◌++◌, length, Option, Some, None, Result, Ok, Err, if◌then◌else◌}
use Rattle.ci_yaml_lines.specs.Prelude.{meaning_of, word_in}
use Rattle.ci_config.specs.Fault.{Fault, K2, K3, Placed, placed}

infixl 10 ◌>>=◌
abbrev pub ◌>>=◌ : {A B : Type 0} → Result A Placed → (A → Result B Placed) → Result B Placed
(Ok x) >>= next = next x
(Err fault) >>= next = Err fault

-- a fault of the entry at the end of a way, and one of the entry that is read
abbrev pub fails_at : {A : Type 0} → List ℕ → Fault → Result A Placed
fails_at way fault = Err (placed fault way)

abbrev pub fails : {A : Type 0} → Fault → Result A Placed
fails fault = fails_at [] fault

-- what is read of the entry behind so many of a list or map: its faults lie in there
abbrev pub within : {A : Type 0} → ℕ → Result A Placed → Result A Placed
within before (Ok x) = Ok x
within before (Err f) = fails_at (before ∷ f.way) f.fault

-- what follows where a test holds, and else this fault of the entry at the end of a way; and of the entry that is read
abbrev pub demand_at : {A : Type 0} → List ℕ → Bool → Fault → Result A Placed → Result A Placed
demand_at way holds fault next = if holds then next else fails_at way fault

abbrev pub demand : {A : Type 0} → Bool → Fault → Result A Placed → Result A Placed
demand holds fault next = demand_at [] holds fault next

-- what there is, and else this fault
abbrev pub or_fault : {A : Type 0} → Option A → Fault → Result A Placed
or_fault (Some x) fault = Ok x
or_fault None fault = fails fault

-- Each of a list is read, knowing what was read before it. The first fault ends the reading.
abbrev pub each : {A B : Type 0} → (List B → A → Result B Placed) → List B → List A → Result (List B) Placed
each read before [] = Ok before
each read before (x ∷ xs) = within (length before) (read before x) >>= λ y. each read (before ++ y ∷ []) xs

-- Each entry of a map, or item of a list, sets what it says in a record, behind so many before it. The first fault ends the reading.
abbrev pub entries : {A S : Type 0} → (ℕ → A → S → Result S Placed) → ℕ → S → List A → Result S Placed
entries set before state [] = Ok state
entries set before state (x ∷ xs) = within before (set before x state) >>= λ next. entries set (suc before) next xs

-- the fault of a key that is no keyword: it is left out by its name, or unknown
abbrev pub left_out_or_unknown : Option (List ℕ) → Fault
left_out_or_unknown (Some name) = K2 name
left_out_or_unknown None = K3

abbrev pub other_key : List (List ℕ) → List ℕ → Fault
other_key left_out key = left_out_or_unknown (word_in left_out key)

-- the keyword that a key is
abbrev pub keyword_of : {T : Type 0} → List (List ℕ × T) → List (List ℕ) → List ℕ → Result T Placed
keyword_of keywords left_out key = or_fault (meaning_of keywords key) (other_key left_out key)
