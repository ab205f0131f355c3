-- Steps of the code on open nodes.
use Rattle.std.proofs.Common.{◌≡◌, ℕ, ◌+◌, ◌<◌, ◌≤◌, Bool, true, false, cond, List, [], ◌∷◌, ◌++◌, length, take, drop, get_or, Option, Err, refl, sym, ◌∙◌, ap, arith, nat_le}
use Rattle.std.proofs.Common.{◌==◌}
use Rattle.std.proofs.lemmas.Bool.{leb-true, leb-false, eq-eqb, ne_eqb}
use Rattle.std.proofs.lemmas.List.{take_more, take-append-drop}
use Rattle.ci_yaml.specs.Prelude.{Y5, Kind, sequence, mapping, Value, Code, push, with_given, is_open_at, has_name, joined, level, is_repeated, Head, dash}
use Rattle.ci_yaml.specs.Prelude.{key, Entry, level_of, Open, OpenMap, Items, Pairs, Text, Tree, bytes_of, items_view, pairs_view, open_kind, open_done, open_name, frame_view}
use Rattle.ci_yaml.specs.Prelude.{frames_onto, frames_view, NoneJoins, MAX_DEPTH}
use Rattle.ci_yaml.specs.declared.progress.Frame.{Frame}
use Rattle.ci_yaml.specs.Reading as reading
use Rattle.std.specs.Global.{Vec}
use Rattle.ci_yaml.proofs.Sound.{same_level}
use Rattle.ci_yaml_lines.proofs.Lists.{drop-at}
use Rattle.ci_yaml.proofs.Frames.{frames-push}

onto-length : (fs : List Frame) (gs : List reading.Frame) → length (frames_onto fs gs) ≡ length fs + length gs
onto-length [] gs = omega arith
onto-length (f ∷ fs) gs = omega (arith, onto-length fs (frame_view f ∷ gs))

pub frames-length : (fs : List Frame) → length (frames_view fs) ≡ length fs
frames-length fs = omega (arith, onto-length fs [])

pub full-deep : (fs xs : List Frame) → xs ≡ fs → true ≡ nat_le MAX_DEPTH (length xs) → MAX_DEPTH ≤ length (frames_view fs)
full-deep fs xs is full = let le : MAX_DEPTH ≤ length xs = leb-true _ _ (sym full) in omega (arith, ap length is, frames-length fs)

pub full-room : (fs xs : List Frame) → xs ≡ fs → false ≡ nat_le MAX_DEPTH (length xs) → length (frames_view fs) < MAX_DEPTH
full-room fs xs is room = let lt : length xs < MAX_DEPTH = leb-false _ _ (sym room) in omega (arith, ap length is, frames-length fs)

-- ---- a node in a column

onto-open : (c : ℕ) (fs : List Frame) (gs : List reading.Frame) → is_open_at c gs ≡ true → is_open_at c (frames_onto fs gs) ≡ true
onto-open c [] gs h = h
onto-open c (f ∷ fs) gs h = onto-open c fs (frame_view f ∷ gs) (rw h (or-true (f.column == c)))
  where
    or-true : (b : Bool) → cond b true true ≡ true
    or-true b = grind arith

onto-append : (a b : List Frame) (gs : List reading.Frame) → frames_onto (a ++ b) gs ≡ frames_onto b (frames_onto a gs)
onto-append [] b gs = refl
onto-append (f ∷ a) b gs = onto-append a b (frame_view f ∷ gs)

pub open-here : (fs : List Frame) (i c : ℕ) (f : Frame) → i < length fs → f ≡ get_or fs i f → f.column ≡ c → is_open_at c (frames_view fs) ≡ true
open-here fs i c f lt is at =
    let parts : fs ≡ take i fs ++ f ∷ drop (i + 1) fs = sym (take-append-drop i fs) ∙ ap (λ (x : List Frame). take i fs ++ x) (drop-at fs i f lt ∙ ap (λ (x : Frame). x ∷ drop (i + 1) fs) (sym is)) in
    ap (λ (x : List Frame). is_open_at c (frames_view x)) parts ∙ ap (is_open_at c) (onto-append (take i fs) (f ∷ drop (i + 1) fs) [])
    ∙ onto-open c (drop (i + 1) fs) (frame_view f ∷ frames_view (take i fs)) (rw (eq-eqb f.column c at) refl)

pub open-not : (fs : List Frame) (i c : ℕ) (f : Frame) → i < length fs → f ≡ get_or fs i f → (f.column ≡ c → ⊥) → is_open_at c (frames_view (take i fs)) ≡ false
    → is_open_at c (frames_view (take (i + 1) fs)) ≡ false
open-not fs i c f lt is ne h =
    let parts : take (i + 1) fs ≡ take i fs ++ f ∷ [] = take_more fs i f lt ∙ ap (λ (x : Frame). take i fs ++ x ∷ []) (sym is) in
    rw (parts, frames-push (take i fs) f, ne_eqb f.column c ne) h

-- ---- the next member of the innermost node; of the code's frames that is the last

abbrev pub entry_at : ℕ → Head → Option Value → Entry
entry_at column head given = record { column = column; head = head; given = given }

abbrev frame_at : ℕ → Open → Frame
frame_at column members = record { column = column; members = members }

-- no member of this kind joins in this column
pub none-joins : (kind : Kind) (column : ℕ) (old init : List Frame) (f : Frame) → old ≡ init ++ f ∷ [] → (open_kind f.members ≡ kind → f.column ≡ column → ⊥)
    → NoneJoins kind column (frames_view old)
none-joins kind column old init f parts ne = λ m v name e at.
    let other : (level (frame_view f) == level_of kind e.column) ≡ false =
    ne_eqb (level (frame_view f)) (level_of kind e.column) (λ h. let s = same_level (open_kind f.members) kind f.column e.column h in ne s.0 (s.1 ∙ at)) in
    rw (parts, frames-push init f, other) refl

step-same : (m : Code) (old init : List Frame) (o : Open) (v : Value) (name : List ℕ) (e : Entry) → old ≡ init ++ frame_at e.column o ∷ []
    → joined m (frames_view old) v (open_kind o) name e
    ≡ cond (is_repeated (open_kind o) name (push (open_done o) (open_name o) v)) (Err Y5) (with_given (record { kind = open_kind o; column = e.column; done = push (open_done o) (open_name o) v; name = name } ∷ frames_view init) e.given)
step-same m old init o v name e parts = rw (parts, frames-push init (frame_at e.column o), eq-eqb (level_of (open_kind o) e.column) (level_of (open_kind o) e.column) refl) refl

pub item-joins : (m : Code) (old init new : List Frame) (items more : Vec Tree) (column : ℕ) (v : Value) (g : Option Value) → old ≡ init ++ frame_at column (Items items) ∷ []
    → items_view more.items ≡ push (items_view items.items) [] v → new ≡ init ++ frame_at column (Items more) ∷ []
    → with_given (frames_view new) g ≡ joined m (frames_view old) v sequence [] (entry_at column dash g)
item-joins m old init new items more column v g parts pushed new-is =
    rw (new-is, frames-push init (frame_at column (Items more)), pushed) (sym (step-same m old init (Items items) v [] (entry_at column dash g) parts))

pub pair-joins : (m : Code) (old init new : List Frame) (pairs more : OpenMap) (last name : Text) (column : ℕ) (v : Value) (g : Option Value)
    → old ≡ init ++ frame_at column (Pairs pairs last) ∷ []
    → pairs_view more.pairs.items ≡ push (pairs_view pairs.pairs.items) (bytes_of last) v
    → has_name (bytes_of name) (pairs_view more.pairs.items) ≡ false → new ≡ init ++ frame_at column (Pairs more name) ∷ []
    → with_given (frames_view new) g ≡ joined m (frames_view old) v mapping (bytes_of name) (entry_at column (key (bytes_of name)) g)
pair-joins m old init new pairs more last name column v g parts pushed fresh new-is =
    let there = frames-push init (frame_at column (Pairs more name)) in
    let same = step-same m old init (Pairs pairs last) v (bytes_of name) (entry_at column (key (bytes_of name)) g) parts in
    rw (new-is, there, pushed, same, rw pushed at fresh) refl

pub pair-repeats : (m : Code) (old init : List Frame) (pairs more : OpenMap) (last name : Text) (column : ℕ) (v : Value) (g : Option Value)
    → old ≡ init ++ frame_at column (Pairs pairs last) ∷ []
    → pairs_view more.pairs.items ≡ push (pairs_view pairs.pairs.items) (bytes_of last) v → has_name (bytes_of name) (pairs_view more.pairs.items) ≡ true
    → joined m (frames_view old) v mapping (bytes_of name) (entry_at column (key (bytes_of name)) g) ≡ Err Y5
pair-repeats m old init pairs more last name column v g parts pushed there =
    rw (step-same m old init (Pairs pairs last) v (bytes_of name) (entry_at column (key (bytes_of name)) g) parts, rw pushed at there) refl
