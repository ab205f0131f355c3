-- Comparisons in rules that mean something else here than they do in GitLab, since nothing defines a variable of theirs.
use Rattle.std.specs.Prelude.{ℕ, ◌+◌, Bool, true, false, List, [], ◌∷◌, ◌++◌, flat_map, nat_eq, Option, Some, None, Result, Ok, Err, ◌==◌, ◌||◌, if◌then◌else◌, codes}
use Rattle.std.specs.Prelude.{option_and_then}
use Rattle.std.specs.List.{starts_with}
use Rattle.std.specs.Str.{bytes_eq}
use Rattle.ci_machine_steps.specs.Prelude.{Variables, layer_view, meaning_of}
use Rattle.ci_config.specs.Prelude.{Value}
use Rattle.ci_graph_layout.specs.Prelude.{ExprCode, Kind, Token, tokens_of, Text, Job, Config, Placed, text_of, list_of, map_of, Given, names, seen}
use Rattle.ci_plan.specs.declared.notes.Asking.{Asking}
use Rattle.ci_plan.specs.declared.records.Note.{Note}

-- ---- variables

-- The rules see it, where these are the variables that they see; or another pipeline has it, of a branch or of a tag.
abbrev pub is_defined : Variables → Text → Bool
is_defined vs name = names vs name || (bytes_eq name (codes "CI_COMMIT_BRANCH") || bytes_eq name (codes "CI_COMMIT_TAG"))

-- the names of GitLab's predefined variables that don't begin as the others
abbrev pub is_other_of_gitlab : Text → Bool
is_other_of_gitlab name =
    bytes_eq name (codes "CHAT_CHANNEL") || (bytes_eq name (codes "CHAT_INPUT") || (bytes_eq name (codes "CHAT_USER_ID")
    || (bytes_eq name (codes "KUBECONFIG") || bytes_eq name (codes "TRIGGER_PAYLOAD"))))

-- a variable that GitLab predefines, by its name
abbrev pub is_of_gitlab : Text → Bool
is_of_gitlab name = starts_with nat_eq name (codes "CI_") || (starts_with nat_eq name (codes "GITLAB_") || is_other_of_gitlab name)

-- ---- comparisons, by their tokens

-- `==`, `!=`, `=~` and `!~`
abbrev pub is_sign : Kind → Bool
is_sign Kind.Equal = true
is_sign Kind.Unequal = true
is_sign Kind.Match = true
is_sign Kind.Mismatch = true
is_sign _ = false

-- what follows the `$`
abbrev pub behind_dollar : Text → Option Text
behind_dollar [] = None
behind_dollar (b ∷ bs) = if b == 36 then Some bs else None

abbrev pub name_by : Text → Kind → Option Text
name_by slice Kind.Name = behind_dollar slice
name_by slice _ = None

-- the variable that a token is
abbrev pub variable_of : Token → Option Text
variable_of t = name_by t.slice t.kind

-- A variable that nothing defines is to be noted beside another variable; and beside a text or a pattern where it is one of GitLab's, which has a
-- value there.
abbrev pub matters : Text → Kind → Bool
matters name Kind.Name = true
matters name Kind.Text = is_of_gitlab name
matters name Kind.Pattern = is_of_gitlab name
matters name _ = false

abbrev pub side_by : Option Text → Kind → List Text
side_by None other = []
side_by (Some name) other = if matters name other then name ∷ [] else []

-- the variable that is to be noted of one side of a comparison, whose other side is of this kind
abbrev pub side : Token → Kind → List Text
side t other = side_by (variable_of t) other

-- those of the comparison that these tokens begin with, the left side first
abbrev pub first_compared : List Token → List Text
first_compared (l ∷ s ∷ r ∷ ts) = if is_sign s.kind then side l r.kind ++ side r l.kind else []
first_compared ts = []

-- those of all comparisons of these tokens, in their order
abbrev pub compared : List Token → List Text
compared [] = []
compared (t ∷ ts) = first_compared (t ∷ ts) ++ compared ts

abbrev pub compared_by : Result (List Token) ExprCode → List Text
compared_by (Ok ts) = compared ts
compared_by (Err fault) = []

-- those of a condition's text
unfoldable pub compared_in : Text → List Text
compared_in text = compared_by (tokens_of text)

-- ---- rules, as the file writes them

abbrev pub known : {A : Type 0} → Result A Placed → Option A
known (Ok x) = Some x
known (Err fault) = None

abbrev pub value_by : Text → Option (List (Text × Value)) → Option Value
value_by key None = None
value_by key (Some pairs) = meaning_of pairs key

-- the value of a map's key, where it is a map that has it
abbrev pub member : Text → Value → Option Value
member key v = value_by key (known (map_of v))

abbrev pub items_by : Option (List Value) → List Value
items_by None = []
items_by (Some vs) = vs

abbrev pub items_in : Option Value → List Value
items_in None = []
items_in (Some v) = items_by (known (list_of v))

-- the rules of a job of a file
abbrev pub rules_in : Value → Text → List Value
rules_in v job = items_in (option_and_then (member (codes "rules")) (member job v))

abbrev pub text_in : Option Value → Option Text
text_in None = None
text_in (Some v) = known (text_of v)

-- the text of a rule's condition
abbrev pub condition_in : Value → Option Text
condition_in rule = text_in (member (codes "if") rule)

-- ---- notes

abbrev pub note_of : Text → ℕ → Text → Note
note_of job rule name = record { job = job; rule = rule; variable = name }

abbrev pub unless_defined : Text → ℕ → Variables → Text → List Note
unless_defined job rule vs name = if is_defined vs name then [] else note_of job rule name ∷ []

-- those of these names that nothing defines, at a rule of a job which sees these variables
abbrev pub undefined : Text → ℕ → Variables → List Text → List Note
undefined job rule vs all = flat_map (unless_defined job rule vs) all

abbrev pub of_condition : Text → ℕ → Variables → Option Text → List Note
of_condition job rule vs None = []
of_condition job rule vs (Some text) = undefined job rule vs (compared_in text)

-- of a job's rules, of which the first has this number
abbrev pub of_rules : Text → ℕ → Variables → List Value → List Note
of_rules job rule vs [] = []
of_rules job rule vs (r ∷ rs) = of_condition job rule vs (condition_in r) ++ of_rules job (rule + 1) vs rs

abbrev pub of_jobs : Given → Config → Value → List Job → List Note
of_jobs g c v [] = []
of_jobs g c v (j ∷ js) = of_rules j.name 1 (seen g c j) (rules_in v j.name) ++ of_jobs g c v js

abbrev pub is_noted : List Note → Text → Bool
is_noted [] name = false
is_noted (n ∷ ns) name = bytes_eq n.variable name || is_noted ns name

-- these, and of others the first of each variable that isn't noted yet
abbrev pub each_once : List Note → List Note → List Note
each_once notes [] = notes
each_once notes (n ∷ ns) = each_once (if is_noted notes n.variable then notes else notes ++ n ∷ []) ns

-- The notes of a file: by job, rule and place, each variable once, where it comes first.
unfoldable pub notes_of : Given → Config → Value → List Note
notes_of g c v = each_once [] (of_jobs g c v c.jobs)

-- ---- the code's

-- those of these names that nothing defines, at the rule that is asked about
abbrev pub undefined_at : Asking → List Text → List Note
undefined_at a all = undefined a.job.now a.rule (layer_view a.seen.now) all

-- the notes are these then, and those of these names that nothing defines
abbrev pub with_names : Asking → List Note → List Text → List Note
with_names a notes all = each_once notes (undefined_at a all)
