-- What each tree of a text has: keys that differ, and at most ten maps and lists within one another.
use Rattle.std.specs.Prelude.{ℕ, suc, max, ⊤}
use Rattle.ci_yaml_lines.specs.Prelude.{Value, node, Members, no_members, member, NamesFit}

abbrev mutual
  -- in each map of it the keys differ
  pub KeysDiffer : Value → Type 0
  KeysDiffer (node kind ms) = NamesFit kind ms × AllKeysDiffer ms
  KeysDiffer v = ⊤

  pub AllKeysDiffer : Members → Type 0
  AllKeysDiffer no_members = ⊤
  AllKeysDiffer (member name v ms) = KeysDiffer v × AllKeysDiffer ms

abbrev mutual
  -- how many maps and lists lie within one another in it
  pub depth : Value → ℕ
  depth (node kind ms) = suc (members_depth ms)
  depth v = 0

  pub members_depth : Members → ℕ
  members_depth no_members = 0
  members_depth (member name v ms) = max (depth v) (members_depth ms)
