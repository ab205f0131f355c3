-- What the code holds of lines and open nodes, without where it lies in memory.
use Rattle.std.specs.Prelude.{◌≡◌, ℕ, List, [], ◌∷◌, Option, Result, Ok, Err, ⊤}
use Rattle.ci_yaml_lines.specs.Prelude.{bytes_of, value_view, items_view, pairs_view, Kind, sequence, mapping, Value, Members, given_view}
use Rattle.ci_yaml.specs.declared.progress.Frame.{Frame}
use Rattle.ci_yaml.specs.declared.progress.Open.{Open}
use Rattle.ci_yaml.specs.declared.progress.Open.TheVariants.{Items, Pairs}
use Rattle.ci_yaml_lines.specs.Entry as entry
use Rattle.ci_yaml.specs.Reading as reading
use Rattle.ci_yaml_lines.specs.declared.code.Code.{Code}
use Rattle.ci_yaml.specs.declared.fault.Stop.{Stop}
use Rattle.ci_yaml.specs.declared.progress.Progress.{Progress}
use Rattle.ci_yaml.specs.declared.progress.Progress.TheVariants.{Start, Whole, Inside}

abbrev pub open_kind : Open → Kind
open_kind (Items v) = sequence
open_kind (Pairs m k) = mapping

abbrev pub open_done : Open → Members
open_done (Items v) = items_view v.items
open_done (Pairs m k) = pairs_view m.pairs.items

abbrev pub open_name : Open → List ℕ
open_name (Items v) = []
open_name (Pairs m k) = bytes_of k

abbrev pub frame_view : Frame → reading.Frame
frame_view f = record { kind = open_kind f.members; column = f.column; done = open_done f.members; name = open_name f.members }

-- the open nodes, innermost first, where the code has the innermost last
abbrev pub frames_onto : List Frame → List reading.Frame → List reading.Frame
frames_onto [] gs = gs
frames_onto (f ∷ fs) gs = frames_onto fs (frame_view f ∷ gs)

abbrev pub frames_view : List Frame → List reading.Frame
frames_view fs = frames_onto fs []

abbrev pub state_view : Progress → reading.State
state_view Start = reading.start
state_view (Whole t) = reading.whole (value_view t)
state_view (Inside fs given) = reading.inside (frames_view fs.items) (given_view given)

-- What a function returned is what reading gives, unless memory ran out.
abbrev pub Fails : {Y : Type 0} → Stop → Result Y Code → Type 0
Fails Stop.Memory read = ⊤
Fails (Stop.Fault c) read = read ≡ Err c

abbrev pub Gives : {X Y : Type 0} → (X → Y) → Result X Stop → Result Y Code → Type 0
Gives view (Ok x) read = read ≡ Ok (view x)
Gives view (Err e) read = Fails e read

-- The same of the nodes alone: whatever value is written for the entry, reading gives them with it, or the code.
abbrev pub GivesNodes : {X : Type 0} → (X → List reading.Frame) → Result X Stop → Option Value → Result reading.State Code → Type 0
GivesNodes nodes (Ok x) given read = read ≡ reading.with_given (nodes x) given
GivesNodes nodes (Err e) given read = Fails e read

-- no member of this kind joins the nodes in this column
abbrev pub NoneJoins : Kind → ℕ → List reading.Frame → Type 0
NoneJoins kind column fs = (m : Code) (v : Value) (name : List ℕ) (e : entry.Entry) → e.column ≡ column → reading.joined m fs v kind name e ≡ Err m
