-- What shows that a file was written for GitLab: words and marks that examples/convert.py writes out.
use Rattle.std.specs.Prelude.{ℕ, Bool, true, false, List, [], ◌∷◌, ◌==◌, ◌&&◌, ◌||◌, nat_eq, codes, if◌then◌else◌}
use Rattle.std.specs.List.{starts_with}

-- keywords, which count where a key may stand
unfoldable pub words : List (List ℕ)
words =
    codes "include:" ∷ codes "default:" ∷ codes "workflow:" ∷ codes "extends:" ∷ codes "inherit:" ∷ codes "image:" ∷ codes "services:" ∷ codes "cache:"
    ∷ codes "artifacts:" ∷ codes "before_script:" ∷ codes "after_script:" ∷ codes "only:" ∷ codes "except:" ∷ codes "parallel:" ∷ codes "<<:" ∷ []

-- an anchor, an alias and `!reference`, wherever they stand
unfoldable pub marks : List (List ℕ)
marks = codes ": &" ∷ codes "- &" ∷ codes ": *" ∷ codes "- *" ∷ codes "!reference" ∷ []

-- a text begins with one of these
abbrev pub begins_with_one : List (List ℕ) → List ℕ → Bool
begins_with_one [] bs = false
begins_with_one (w ∷ ws) bs = starts_with nat_eq bs w || begins_with_one ws bs

-- A key may stand behind this byte: it ends a line, or it is a space or a dash where one might stand before.
abbrev pub leads_to_key : Bool → ℕ → Bool
leads_to_key before b = (b == 10) || (before && ((b == 32) || (b == 45)))

abbrev pub shows_here : Bool → List ℕ → Bool
shows_here may_be_key bs = begins_with_one marks bs || (may_be_key && begins_with_one words bs)

-- one of them stands somewhere in the text, where a key may stand at its beginning, or not
abbrev pub shows_from : Bool → List ℕ → Bool
shows_from may_be_key [] = false
shows_from may_be_key (b ∷ bs) = shows_here may_be_key (b ∷ bs) || shows_from (leads_to_key may_be_key b) bs

abbrev pub shows_gitlab : List ℕ → Bool
shows_gitlab bs = shows_from true bs

-- the last line of what is said of such a file's faults
unfoldable pub convert_text : List ℕ → List ℕ
convert_text bs =
    if shows_gitlab bs then codes "this looks like a file of GitLab's: examples/convert.py writes such a file out into the profile, and says what it drops\n" else []
