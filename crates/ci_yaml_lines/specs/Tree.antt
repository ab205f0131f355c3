-- A tree, without where it lies in memory.
use Rattle.std.specs.Prelude.{◌≡◌, ◌≢◌, ℕ, ℤ, Bool, List, [], ⊤}

pub data Kind : Type 0 where
  sequence : Kind
  mapping : Kind

-- A list is a node whose members have no names, a map one whose members have keys, in order.
mutual
  pub data Value : Type 0 where
    null : Value
    boolean : Bool → Value
    number : ℤ → Value
    text : List ℕ → Value
    node : Kind → Members → Value

  pub data Members : Type 0 where
    no_members : Members
    member : List ℕ → Value → Members → Members

-- no member has this name
abbrev pub LacksName : List ℕ → Members → Type 0
LacksName k no_members = ⊤
LacksName k (member name v ms) = (k ≢ name) × LacksName k ms

-- the names differ from one another
abbrev pub DifferInNames : Members → Type 0
DifferInNames no_members = ⊤
DifferInNames (member name v ms) = LacksName name ms × DifferInNames ms

abbrev pub HaveNoNames : Members → Type 0
HaveNoNames no_members = ⊤
HaveNoNames (member name v ms) = (name ≡ []) × HaveNoNames ms

-- the names of a map differ; those of a list are empty
abbrev pub NamesFit : Kind → Members → Type 0
NamesFit sequence ms = HaveNoNames ms
NamesFit mapping ms = DifferInNames ms

-- one more member at the end
abbrev pub push : Members → List ℕ → Value → Members
push no_members name v = member name v no_members
push (member n w ms) name v = member n w (push ms name v)
