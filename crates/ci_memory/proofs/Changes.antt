-- What changes leave as it was.
use Rattle.std.proofs.Common.{◌≡◌, false, List, [], ◌∷◌, refl, sym, ◌∙◌}
use Rattle.std.specs.List.{list_any}
use Rattle.std.proofs.lemmas.Bool.{false≢true, or_parts}
use Rattle.ci_machine_steps.specs.Prelude.{Key, Record, RowChange, Put, Remove, State, changed, applied}
use Rattle.ci_memory.specs.Modes.{is_of_mode}
use Rattle.ci_memory.specs.Runners.{is_of_runner}

-- a change that is not of a runner leaves the runners
runners_stay : (c : RowChange) (s : State) → is_of_runner c ≡ false → (changed c s).runners ≡ s.runners
runners_stay (Put (Record.Runner x)) s e = absurd (false≢true (sym e))
runners_stay (Remove (Key.Runner n)) s e = absurd (false≢true (sym e))
runners_stay _ s e = refl

-- one that is not of a mode leaves the modes
modes_stay : (c : RowChange) (s : State) → is_of_mode c ≡ false → (changed c s).modes ≡ s.modes
modes_stay (Put (Record.Mode x)) s e = absurd (false≢true (sym e))
modes_stay (Remove (Key.Mode n name)) s e = absurd (false≢true (sym e))
modes_stay _ s e = refl

-- and so do changes none of which is of a runner
pub all_runners_stay : (cs : List RowChange) (s : State) → list_any is_of_runner cs ≡ false → (applied cs s).runners ≡ s.runners
all_runners_stay [] s none = refl
all_runners_stay (c ∷ cs) s none =
    let both = or_parts (is_of_runner c) (list_any is_of_runner cs) none in
    all_runners_stay cs (changed c s) both.1 ∙ runners_stay c s both.0

-- nor is one of a mode
pub all_modes_stay : (cs : List RowChange) (s : State) → list_any is_of_mode cs ≡ false → (applied cs s).modes ≡ s.modes
all_modes_stay [] s none = refl
all_modes_stay (c ∷ cs) s none =
    let both = or_parts (is_of_mode c) (list_any is_of_mode cs) none in
    all_modes_stay cs (changed c s) both.1 ∙ modes_stay c s both.0
