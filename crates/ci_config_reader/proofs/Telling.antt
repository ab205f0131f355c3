-- What is read one after the other, up to the entry that has the fault.
use Rattle.std.proofs.Common.{◌≡◌, ℕ, suc, ◌+◌, ◌≤◌, Bool, true, false, cond, List, [], ◌∷◌, ◌++◌, length, Result, Ok, Err, refl, sym, ◌∙◌, ap, subst, arith, eqb-true, eq-eqb}
use Rattle.std.proofs.Common.{◌==◌, ◌<◌, get_or, drop, map, vec_len}
use Rattle.std.proofs.lemmas.List.{map-append}
use Rattle.std.specs.Global.{Vec}
use Rattle.std.specs.Prelude.{⊤}
use Rattle.ci_config.specs.declared.fault.Way.{Way}
use Rattle.ci_config.specs.Prelude.{X8, Patterns, built, refused, refused_at, below, Fault, Placed, code_view, way_view, GivesAt, IsWithin, ◌>>=◌, fails_at, within}
use Rattle.ci_config.specs.Prelude.{each, entries}
use Rattle.ci_config_reader.specs.Answer.{builds_with, builds_for}
use Rattle.ci_config.specs.declared.fault.ConfigCode.{ConfigCode}
use Rattle.ci_config.specs.declared.fault.ReadFault.{ReadFault}
use Rattle.ci_config.specs.declared.fault.ReadFault.TheVariants.{Memory, Here, Inside}
use Rattle.ci_config.proofs.Owns.{Own, is_x8}
use Rattle.ci_config_reader.proofs.Trees.{step, count-is}

-- ---- a fault, whatever would be read else
abbrev pub Fails : {Y : Type 0} → ReadFault → Result Y Placed → Type 0
Fails {Y = Y} e read = GivesAt {X = Y} (λ y. y) (Err e) read

pub fails-then : {X Y : Type 0} (e : ReadFault) (r : Result X Placed) (k : X → Result Y Placed) → Fails e r → Fails e (r >>= k)
fails-then Memory r k h = tt
fails-then (Here f) r k h = ap (λ x. x >>= k) h
fails-then (Inside f way) r k h = ap (λ x. x >>= k) h

-- a fault of an entry is one of the list or map that has it
pub fails-within : {Y : Type 0} (i : ℕ) (e d : ReadFault) (r : Result Y Placed) → IsWithin i e d → Fails e r → Fails d (within i r)
fails-within i e Memory r w h = tt
fails-within i Memory (Here g) r w h = absurd w
fails-within i Memory (Inside g way) r w h = absurd w
fails-within i (Here f) (Here g) r w h = absurd w
fails-within i (Inside f inner) (Here g) r w h = absurd w
fails-within {Y = Y} i (Here f) (Inside g way) r w h = ap (within i) h ∙ ap (λ z. failed z (i ∷ [])) (sym w.0) ∙ ap (failed (code_view g)) (sym w.1)
  where
    failed : Fault → List ℕ → Result Y Placed
    failed z steps = fails_at steps z
fails-within {Y = Y} i (Inside f inner) (Inside g way) r w h = ap (within i) h ∙ ap (λ z. failed z (i ∷ (way_view inner))) (sym w.0) ∙ ap (failed (code_view g)) (sym w.1)
  where
    failed : Fault → List ℕ → Result Y Placed
    failed z steps = fails_at steps z

pub fails-same : {Y : Type 0} (e : ReadFault) (r s : Result Y Placed) → r ≡ s → Fails e r → Fails e s
fails-same e r s is h = subst (Fails e) is h

-- ---- what holds no expression
pub entries-next : {A S : Type 0} (set : ℕ → A → S → Result S Placed) (i : ℕ) (state : S) (x : A) (rest xs : List A) (next : S) (whole : Result S Placed)
    → xs ≡ x ∷ rest → entries set i state xs ≡ whole → set i x state ≡ Ok next → entries set (i + 1) next rest ≡ whole
entries-next set i state x rest xs next whole are is h =
    let n : suc i ≡ i + 1 = omega arith in
    sym (ap (λ k. entries set k next rest) n) ∙ sym (ap (λ r. within i r >>= λ s. entries set (suc i) s rest) h) ∙ sym (ap (entries set i state) are) ∙ is

pub entries-fails : {A S : Type 0} (set : ℕ → A → S → Result S Placed) (i : ℕ) (state : S) (x : A) (rest xs : List A) (whole : Result S Placed) (e d : ReadFault)
    → xs ≡ x ∷ rest → entries set i state xs ≡ whole → IsWithin i e d → Fails e (set i x state) → Fails d whole
entries-fails set i state x rest xs whole e d are is w h =
    fails-same d (within i (set i x state) >>= λ s. entries set (suc i) s rest) whole (sym (ap (entries set i state) are) ∙ is)
    (fails-then d (within i (set i x state)) (λ s. entries set (suc i) s rest) (fails-within i e d (set i x state) w h))

pub each-next : {A B : Type 0} (read : List B → A → Result B Placed) (done next : List B) (x : A) (rest xs : List A) (y : B) (whole : Result (List B) Placed)
    → xs ≡ x ∷ rest → each read done xs ≡ whole → read done x ≡ Ok y → next ≡ done ++ y ∷ [] → each read next rest ≡ whole
each-next read done next x rest xs y whole are is h grown =
    ap (λ ys. each read ys rest) grown ∙ sym (ap (λ r. within (length done) r >>= λ z. each read (done ++ z ∷ []) rest) h) ∙ sym (ap (each read done) are) ∙ is

pub each-fails : {A B : Type 0} (read : List B → A → Result B Placed) (done : List B) (x : A) (rest xs all : List A) (from : Result (List A) Placed) (e d : ReadFault)
    → xs ≡ x ∷ rest → each read done xs ≡ each read [] all → from ≡ Ok all → IsWithin (length done) e d → Fails e (read done x) → Fails d (from >>= λ ys. each read [] ys)
each-fails read done x rest xs all from e d are is of w h =
    fails-same d (within (length done) (read done x) >>= λ y. each read (done ++ y ∷ []) rest) (from >>= λ ys. each read [] ys)
    (sym (ap (each read done) are) ∙ is ∙ sym (ap (λ r. r >>= λ ys. each read [] ys) of))
    (fails-then d (within (length done) (read done x)) (λ y. each read (done ++ y ∷ []) rest) (fails-within (length done) e d (read done x) w h))

-- one of a list of the code, and the list that grows by what is read of it
module _ {A B C D : Type 0} (from_code : C → A) (view : D → B) (read : List B → A → Result B Placed) (xs : List C) (i : ℕ) (x : C) (there : i < length xs) (is : x ≡ get_or xs i x) (done : Vec D)
    (leads : each read (map view done.items) (map from_code (drop i xs)) ≡ each read [] (map from_code xs)) where
  pub item-next : (y : D) (next : Vec D) → read (map view done.items) (from_code x) ≡ Ok (view y) → next.items ≡ done.items ++ y ∷ [] → each read (map view next.items) (map from_code (drop (i + 1) xs)) ≡ each read [] (map from_code xs)
  item-next y next h grown =
      each-next read (map view done.items) (map view next.items) (from_code x) (map from_code (drop (i + 1) xs)) (map from_code (drop i xs)) (view y) (each read [] (map from_code xs)) (step from_code xs i x there is) leads h
      (ap (map view) grown ∙ map-append view done.items (y ∷ []))

  pub item-fails : (from : Result (List A) Placed) (e d : ReadFault) (n : ℕ) → from ≡ Ok (map from_code xs) → n ≡ vec_len done → IsWithin n e d → Fails e (read (map view done.items) (from_code x)) → Fails d (from >>= λ ys. each read [] ys)
  item-fails from e d n of counted w h =
      each-fails read (map view done.items) (from_code x) (map from_code (drop (i + 1) xs)) (map from_code (drop i xs)) (map from_code xs) from e d (step from_code xs i x there is) leads of
      (subst (λ n. IsWithin n e d) (sym (count-is view done n counted)) w) h

-- ---- what may hold expressions
-- each pattern is built, but perhaps those of one entry behind so many, or of a later one
abbrev pub From : ℕ → Patterns → Type 0
From i built = ⊤
From i refused = ⊥
From i (refused_at []) = ⊥
From i (refused_at (k ∷ way)) = i ≤ k

-- what stands before that is read with each built
not-same : (k i : ℕ) → suc i ≤ k → (k == i) ≡ false
not-same k i lt = by-test (k == i) refl
  where
    by-test : (b : Bool) → (k == i) ≡ b → b ≡ false
    by-test true e = let same : k ≡ i = eqb-true k i e in absurd (omega (arith, same, lt))
    by-test false e = refl

from-below : (i : ℕ) (p : Patterns) → From (suc i) p → below i p ≡ built
from-below i built h = refl
from-below i refused h = absurd h
from-below i (refused_at []) h = absurd h
from-below i (refused_at (k ∷ way)) h = ap (λ b. cond b (refused_at way) built) (not-same k i h)

from-less : (i : ℕ) (p : Patterns) → From (suc i) p → From i p
from-less i built h = tt
from-less i refused h = h
from-less i (refused_at []) h = h
from-less i (refused_at (k ∷ way)) h = omega (arith, h)

-- with the patterns that are built so, the first gives what the second gives
abbrev pub Leads : {Y : Type 0} → ℕ → (Patterns → Result Y Placed) → (Patterns → Result Y Placed) → Type 0
Leads i m n = (p : Patterns) → From i p → m p ≡ n p

-- an entry behind so many, and what follows it
abbrev entered : {X Y : Type 0} → ℕ → (Patterns → Result X Placed) → (X → Patterns → Result Y Placed) → Patterns → Result Y Placed
entered i m k p = within i (m (below i p)) >>= λ y. k y p

step-next : {X Y : Type 0} (i : ℕ) (m : Patterns → Result X Placed) (k : X → Patterns → Result Y Placed) (whole : Patterns → Result Y Placed) (y : X)
    → Leads i (entered i m k) whole → m built ≡ Ok y → Leads (suc i) (k y) whole
step-next i m k whole y leads is = λ p from.
    sym (ap (λ q. within i (m q) >>= λ y. k y p) (from-below i p from) ∙ ap (λ r. within i r >>= λ y. k y p) is) ∙ leads p (from-less i p from)

-- the patterns with which a fault comes, by whether it is of one that was refused
abbrev chosen : List ℕ → Bool → Patterns
chosen way b = cond b (refused_at way) built

chosen-here : (f : ConfigCode) → builds_with (Here f) ≡ chosen [] (is_x8 (code_view f))
chosen-here (ConfigCode.K13 X8) = refl
chosen-here other = refl

chosen-inside : (f : ConfigCode) (way : Way) → builds_with (Inside f way) ≡ chosen (way_view way) (is_x8 (code_view f))
chosen-inside (ConfigCode.K13 X8) way = refl
chosen-inside other way = refl

chosen-below : (i : ℕ) (way : List ℕ) (b : Bool) → below i (chosen (i ∷ way) b) ≡ chosen way b
chosen-below i way true = ap (λ b. cond b (refused_at way) built) (eq-eqb i i refl)
chosen-below i way false = refl

chosen-from : (i : ℕ) (way : List ℕ) (b : Bool) → From i (chosen (i ∷ way) b)
chosen-from i way true = omega arith
chosen-from i way false = tt

fails-by : {X Y : Type 0} (i : ℕ) (m : Patterns → Result X Placed) (k : X → Patterns → Result Y Placed) (whole : Patterns → Result Y Placed) (e d : ReadFault) (way : List ℕ) (b : Bool)
    → Leads i (entered i m k) whole → builds_with e ≡ chosen way b → builds_with d ≡ chosen (i ∷ way) b → IsWithin i e d → Fails e (m (builds_with e)) → Fails d (whole (builds_with d))
fails-by i m k whole e d way b leads is at w h =
    let p = chosen (i ∷ way) b in
    let inner : below i p ≡ builds_with e = chosen-below i way b ∙ sym is in
    let one = fails-within i e d (m (builds_with e)) w h in
    let then = fails-then d (within i (m (builds_with e))) (λ y. k y p) one in
    let here = fails-same d (within i (m (builds_with e)) >>= λ y. k y p) (entered i m k p) (ap (λ q. within i (m q) >>= λ y. k y p) (sym inner)) then in
    subst (λ q. Fails d (whole q)) (sym at) (fails-same d (entered i m k p) (whole p) (leads p (chosen-from i way b)) here)

step-fails : {X Y : Type 0} (i : ℕ) (m : Patterns → Result X Placed) (k : X → Patterns → Result Y Placed) (whole : Patterns → Result Y Placed) (e d : ReadFault)
    → Leads i (entered i m k) whole → IsWithin i e d → Fails e (m (builds_with e)) → Fails d (whole (builds_with d))
step-fails i m k whole e Memory leads w h = tt
step-fails i m k whole Memory (Here g) leads w h = absurd w
step-fails i m k whole Memory (Inside g way) leads w h = absurd w
step-fails i m k whole (Here f) (Here g) leads w h = absurd w
step-fails i m k whole (Inside f inner) (Here g) leads w h = absurd w
step-fails i m k whole (Here f) (Inside g way) leads w h =
    fails-by i m k whole (Here f) (Inside g way) [] (is_x8 (code_view f)) leads (chosen-here f)
    (chosen-inside g way ∙ ap (λ c. chosen (way_view way) (is_x8 c)) w.0 ∙ ap (λ steps. chosen steps (is_x8 (code_view f))) w.1) w h
step-fails i m k whole (Inside f inner) (Inside g way) leads w h =
    fails-by i m k whole (Inside f inner) (Inside g way) (way_view inner) (is_x8 (code_view f)) leads (chosen-inside f inner)
    (chosen-inside g way ∙ ap (λ c. chosen (way_view way) (is_x8 c)) w.0 ∙ ap (λ steps. chosen steps (is_x8 (code_view f))) w.1) w h

-- ---- one more of a list
abbrev pub listed : {B V : Type 0} → (Patterns → List B → V → Result B Placed) → List B → List V → Patterns → Result (List B) Placed
listed read done xs p = each (λ before. read (below (length before) p) before) done xs

pub list-fails : {B V : Type 0} (read : Patterns → List B → V → Result B Placed) (done : List B) (x : V) (rest xs : List V) (whole : Patterns → Result (List B) Placed) (e d : ReadFault)
    → xs ≡ x ∷ rest → Leads (length done) (listed read done xs) whole → IsWithin (length done) e d → Fails e (read (builds_with e) done x) → Fails d (whole (builds_with d))
list-fails read done x rest xs whole e d are leads w h =
    step-fails (length done) (λ p. read p done x) (λ z. listed read (done ++ z ∷ []) rest) whole e d (subst (λ ys. Leads (length done) (listed read done ys) whole) are leads) w h

-- ---- one more of a map
abbrev pub entries_by : {S V : Type 0} → (Patterns → V → S → Result S Placed) → ℕ → S → List V → Patterns → Result S Placed
entries_by set i state xs p = entries (λ before. set (below before p)) i state xs

pub map-next : {S V : Type 0} (set : Patterns → V → S → Result S Placed) (i : ℕ) (state : S) (x : V) (rest xs : List V) (next : S) (whole : Patterns → Result S Placed)
    → xs ≡ x ∷ rest → Leads i (entries_by set i state xs) whole → set built x state ≡ Ok next → Leads (i + 1) (entries_by set (i + 1) next rest) whole
map-next set i state x rest xs next whole are leads is =
    let n : suc i ≡ i + 1 = omega arith in
    subst (λ k. Leads k (entries_by set k next rest) whole) n
    (step-next i (λ p. set p x state) (λ s. entries_by set (suc i) s rest) whole next (subst (λ ys. Leads i (entries_by set i state ys) whole) are leads) is)

pub map-fails : {S V : Type 0} (set : Patterns → V → S → Result S Placed) (i : ℕ) (state : S) (x : V) (rest xs : List V) (whole : Patterns → Result S Placed) (e d : ReadFault)
    → xs ≡ x ∷ rest → Leads i (entries_by set i state xs) whole → IsWithin i e d → Fails e (set (builds_with e) x state) → Fails d (whole (builds_with d))
map-fails set i state x rest xs whole e d are leads w h =
    step-fails i (λ p. set p x state) (λ s. entries_by set (suc i) s rest) whole e d (subst (λ ys. Leads i (entries_by set i state ys) whole) are leads) w h

-- ---- behind what was read, what holds no pattern and has no fault X8
own-built : {X Y : Type 0} (view : X → Y) (r : Result X ReadFault) (read : Result Y Placed) → Own read → GivesAt view r read → builds_for r ≡ built
own-built view (Ok x) read own h = refl
own-built view (Err Memory) read own h = refl
own-built view (Err (Here f)) read own h = chosen-here f ∙ ap (chosen []) (subst Own h own)
own-built view (Err (Inside f way)) read own h = chosen-inside f way ∙ ap (chosen (way_view way)) (subst Own h own)

given-then : {X Y Z : Type 0} (view : Z → Y) (r : Result Z ReadFault) (m : Result X Placed) (k : X → Result Y Placed) (x : X) → m ≡ Ok x → GivesAt view r (k x) → GivesAt view r (m >>= k)
given-then view (Ok z) m k x is h = ap (λ s. s >>= k) is ∙ h
given-then view (Err Memory) m k x is h = tt
given-then view (Err (Here f)) m k x is h = ap (λ s. s >>= k) is ∙ h
given-then view (Err (Inside f way)) m k x is h = ap (λ s. s >>= k) is ∙ h

pub then-read : {X Y Z : Type 0} (view : Z → Y) (r : Result Z ReadFault) (m : Patterns → Result X Placed) (k : X → Result Y Placed) (x : X)
    → Own (k x) → m built ≡ Ok x → GivesAt view r (k x) → GivesAt view r (m (builds_for r) >>= k)
then-read view r m k x own is h = given-then view r (m (builds_for r)) k x (ap m (own-built view r (k x) own h) ∙ is) h
