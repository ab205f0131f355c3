-- Entries of maps that lie within one another, for worked examples.
use Rattle.std.specs.Prelude.{ℕ, zero, suc, List, [], ◌∷◌, ◌++◌, Some, None, codes}
use Rattle.ci_yaml_lines.specs.Prelude.{sequence, node, no_members, key}
use Rattle.ci_yaml_lines.specs.Entry.{Entry}

-- a key `a` in this column, with nothing behind it
abbrev pub key_at : ℕ → Entry
key_at column = record { column = column; head = key (codes "a"); given = None }

-- the same, with `[]` behind it
abbrev pub list_at : ℕ → Entry
list_at column = record (key_at column) { given = Some (node sequence no_members) }

-- so many maps, each the value of the key before it
abbrev pub nested : ℕ → List Entry
nested zero = []
nested (suc n) = nested n ++ key_at n ∷ []
