-- A step stops with the least of the codes that hold of its entry's place, and goes on where none does.
use Rattle.std.proofs.Common.{◌≡◌, ℕ, suc, ◌<◌, ◌≤◌, Bool, true, false, cond, List, [], ◌∷◌, ◌++◌, length, Option, Some, None, Result, Ok, Err, refl, sym, ◌∙◌, ap, arith, inl, inr}
use Rattle.std.proofs.Common.{nat_lt, nat_le, ◌==◌, ◌&&◌, ◌||◌}
use Rattle.std.specs.Prelude.{⊤}
use Rattle.std.proofs.lemmas.Bool.{lt-ltb, le-ltb, cases_lt, cases_order, eq-eqb, ne_eqb}
use Rattle.ci_yaml.specs.Prelude.{Code, Y3, Y4, Y5, Y10, Kind, sequence, mapping, Value, Members, no_members, member, push, Head, dash, key, bare, Entry, head_of, level_of, ◌>>=◌}
use Rattle.ci_yaml.specs.Prelude.{level, State, start, whole, inside, closed, settle, value_of, same_text, has_name, is_node, with_given, begun, is_repeated, begins, member_next}
use Rattle.ci_yaml.specs.Prelude.{whole_of, bare_next, next_by, next, run, when, least, at_level, level_open, column_open, awaited, is_empty, fits, is_key, is_named, opens_above}
use Rattle.ci_yaml.specs.Prelude.{too_deep, repeats_by, codes_at, or_else, place_codes, MAX_DEPTH}
use Rattle.ci_yaml.specs.Reading.{Frame, entered}
use Rattle.ci_yaml.proofs.Sound.{Stands, StateStands, begins-none, next-stands, same_level}
use Rattle.ci_yaml.proofs.Complete.{settle-closes, settle-stays}
use Rattle.ci_yaml.proofs.Opened.{by-kind, some_name, frames_with, AllBelow, none-below, below-more, stands-below, open-is}
use Rattle.ci_yaml.proofs.Places.{has_level, level-is, no-level, stands-ascend, levels_above, above-is, no-levels, above-inner, above-all}
use Rattle.ci_yaml.proofs.Faults.{misplaced-is, awaited-is, entered-not}
use Rattle.ci_yaml_lines.proofs.Forms.{EachEntry}

abbrev pub fault_of : {X : Type 0} → Result X Code → Option Code
fault_of (Ok x) = None
fault_of (Err c) = Some c

-- the code of a place, by four tests
abbrev place_by : Bool → Bool → Bool → Bool → Option Code
place_by fit in_column repeats deep =
    least (when (cond fit false (cond in_column false true)) Y3 ++ when (cond fit false in_column) Y4 ++ when repeats Y5 ++ when deep Y10)

fitting : (o r d : Bool) → place_by true o r d ≡ cond r (Some Y5) (cond d (Some Y10) None)
fitting o r d = grind arith

misfit : (o r d : Bool) → place_by false o r d ≡ Some (cond o Y4 Y3)
misfit o r d = grind arith

-- a list on the line counts as a node below
abbrev deep_at : ℕ → Bool → Bool
deep_at n on_line = nat_le MAX_DEPTH n || (on_line && nat_le MAX_DEPTH (suc n))

fault-cond : (b : Bool) (r s : Result State Code) → fault_of (cond b r s) ≡ cond b (fault_of r) (fault_of s)
fault-cond true r s = refl
fault-cond false r s = refl

with_given-code : (fs : List Frame) (n : ℕ) (given : Option Value) → length fs ≡ suc n → n < MAX_DEPTH → fault_of (with_given fs given) ≡ cond (deep_at n (is_node given)) (Some Y10) None
with_given-code fs n given e lt = rw (fault-cond, fault-cond, e) (by n (is_node given) lt)
  where
    by : (m : ℕ) (b : Bool) → m < MAX_DEPTH → cond b (cond (nat_lt (suc m) MAX_DEPTH) None (Some Y10)) None ≡ cond (deep_at m b) (Some Y10) None
    by m b less = grind arith

begun-code : (fs : List Frame) (kind : Kind) (name : List ℕ) (e : Entry) → fault_of (begun fs kind name e) ≡ cond (deep_at (length fs) (is_node e.given)) (Some Y10) None
begun-code fs kind name e =
    let f : Frame = record { kind = kind; column = e.column; done = no_members; name = name } in
    elim (cases_lt (length fs) MAX_DEPTH) [
      | inl lt ↦ rw (lt-ltb (length fs) MAX_DEPTH lt) (with_given-code (f ∷ fs) (length fs) e.given refl lt)
      | inr le ↦ rw (le-ltb (length fs) MAX_DEPTH le) (by (length fs) (is_node e.given) le)
    ]
  where
    by : (m : ℕ) (b : Bool) → MAX_DEPTH ≤ m → Some Y10 ≡ cond (deep_at m b) (Some Y10) None
    by m b le = grind arith

-- what settling leaves, where a node is open at the level
record Top (l : ℕ) (fs : List Frame) (v : Value) : Type 0 where
  frame : Frame
  outer : List Frame
  value : Value
  is : settle l fs v ≡ record { frames = frame ∷ outer; value = value }
  at : level frame ≡ l
  above : levels_above l fs ≡ length outer
  named : (test : Head → Bool) → frames_with test l fs ≡ (some_name test frame.kind frame.done || test (head_of frame.kind frame.name))
  room : length outer < MAX_DEPTH

settle-to : (l : ℕ) (fs : List Frame) (v : Value) (given : Option Value) (es : List Entry) → Stands fs given es → has_level l fs ≡ true → Top l fs v
settle-to l [] v given es h has = absurd cc
settle-to l (f ∷ fs) v given es h has = elim (cases_order l (level f)) [
  | inl same ↦
      let below = below-more fs (level f) l (omega arith) (stands-below fs None h.0 (level f) h.11 h.10) in
      record {
        frame = f;
        outer = fs;
        value = v;
        is = settle-stays l f fs v (omega arith);
        at = sym same;
        above = above-inner l f fs (omega arith) ∙ above-all l fs (stands-ascend fs None h.0 h.11) below;
        named = λ test. rw (eq-eqb (level f) l (sym same)) refl;
        room = omega (arith, h.9);
      }
  | inr (inl lt) ↦
      let ne : (level f == l) ≡ false = ne_eqb (level f) l (λ e. omega arith) in
      let t = settle-to l fs (closed f v) None h.0 h.11 (rw ne at has) in
      record {
        frame = t.frame;
        outer = t.outer;
        value = t.value;
        is = settle-closes l f fs v lt ∙ t.is;
        at = t.at;
        above = above-inner l f fs (omega arith) ∙ t.above;
        named = λ test. rw ne (t.named test);
        room = t.room;
      }
  | inr (inr gt) ↦
      let none : has_level l (f ∷ fs) ≡ false = no-level (f ∷ fs) l (gt, below-more fs (level f) l (omega arith) (stands-below fs None h.0 (level f) h.11 h.10)) in
      absurd cc
]

-- ---- the tests of a member, by its kind

abbrev repeats_kind : Kind → List ℕ → ℕ → List Entry → Bool
repeats_kind sequence name l es = false
repeats_kind mapping name l es = is_named name l es

repeats-is : (kind : Kind) (name : List ℕ) (head : Head) (es : List Entry) (c : ℕ) → head ≡ head_of kind name → repeats_by head es c ≡ repeats_kind kind name (level_of kind c) es
repeats-is sequence name head es c e = ap (λ h. repeats_by h es c) e
repeats-is kind name head es c e = ap (λ h. repeats_by h es c) e

code-by : (e : Entry) (es : List Entry) (kind : Kind) (name : List ℕ) (f r d : Bool) → e.head ≡ head_of kind name
    → ((is_empty es && (e.column == 0)) || (awaited (level_of kind e.column) es || level_open (level_of kind e.column) es)) ≡ f
    → repeats_kind kind name (level_of kind e.column) es ≡ r → too_deep (level_of kind e.column) es e.given ≡ d
    → least (codes_at es e) ≡ place_by f (column_open e.column es) r d
code-by e es kind name f r d head p q s =
    let l : ℕ = level_of kind e.column in
    let t : fits es e ≡ f = ap (λ b. (is_empty es && (e.column == 0)) || b) (by-kind kind name e.head e.column (λ m. awaited m es || level_open m es) head) ∙ p in
    ap (λ x. place_by x (column_open e.column es) (repeats_by e.head es e.column) (at_level e.head e.column (λ m. too_deep m es e.given))) t
    ∙ ap (λ x. place_by f (column_open e.column es) x (at_level e.head e.column (λ m. too_deep m es e.given))) (repeats-is kind name e.head es e.column head ∙ q)
    ∙ ap (place_by f (column_open e.column es) r) (by-kind kind name e.head e.column (λ m. too_deep m es e.given) head ∙ s)

-- where the entry fits
fits-code : (e : Entry) (es : List Entry) (kind : Kind) (name : List ℕ) (r : Bool) (n : ℕ) → e.head ≡ head_of kind name
    → (awaited (level_of kind e.column) es || level_open (level_of kind e.column) es) ≡ true
    → repeats_kind kind name (level_of kind e.column) es ≡ r → opens_above (level_of kind e.column) es ≡ n
    → least (codes_at es e) ≡ cond r (Some Y5) (cond (deep_at n (is_node e.given)) (Some Y10) None)
fits-code e es kind name r n head stands q count =
    code-by e es kind name true r (deep_at n (is_node e.given)) head (by _ _ stands) q (ap (λ m. deep_at m (is_node e.given)) count) ∙ fitting (column_open e.column es) r
    (deep_at n (is_node e.given))
  where
    by : (a b : Bool) → b ≡ true → (a || b) ≡ true
    by a b p = grind arith

kind-below : (kind : Kind) (c : ℕ) (name : List ℕ) (fs : List Frame) (given : Option Value) (es : List Entry) → Stands fs given es → AllBelow fs (level_of kind c)
    → repeats_kind kind name (level_of kind c) es ≡ false
kind-below sequence c name fs given es h below = refl
kind-below mapping c name fs given es h below = open-is (is_key name) fs given es (level_of mapping c) h ∙ none-below (is_key name) fs (level_of mapping c) below

-- the first member of an awaited node
awaited-code : (fs : List Frame) (given : Option Value) (kind : Kind) (name : List ℕ) (e : Entry) (es : List Entry) → Stands fs given es → e.head ≡ head_of kind name
    → awaited (level_of kind e.column) es ≡ true → fault_of (entered fs given kind name e) ≡ least (codes_at es e)
awaited-code fs given kind name e es h head due =
    let l : ℕ = level_of kind e.column in
    let begin : begins l fs given ≡ true = sym (awaited-is l fs given es h) ∙ due in
    let below : AllBelow fs l = stands-below fs given es l h (begins-none l fs given begin).1 in
    rw begin (begun-code fs kind name e)
    ∙ sym (fits-code e es kind name false (length fs) head (rw due refl) (kind-below kind e.column name fs given es h below)
    (above-is l fs given es h ∙ above-all l fs (stands-ascend fs given es h) below))

has-push : (k : List ℕ) (ms : Members) (name : List ℕ) (v : Value) → (some_name (is_key k) mapping ms || is_key k (key name)) ≡ has_name k (push ms name v)
has-push k no_members name v = by (same_text k name)
  where
    by : (t : Bool) → (false || t) ≡ cond t true false
    by t = grind arith
has-push k (member n w ms) name v = rw (sym (has-push k ms name v)) (by (same_text k n) (some_name (is_key k) mapping ms) (same_text k name))
  where
    by : (a b c : Bool) → ((a || b) || c) ≡ cond a true (b || c)
    by a b c = grind arith

top-repeats : (kind : Kind) (name : List ℕ) (c : ℕ) (fs : List Frame) (given : Option Value) (es : List Entry) (v : Value) → Stands fs given es → (t : Top (level_of kind c) fs v)
    → repeats_kind kind name (level_of kind c) es ≡ is_repeated kind name (push t.frame.done t.frame.name t.value)
top-repeats sequence name c fs given es v h t = refl
top-repeats mapping name c fs given es v h t =
    let same : t.frame.kind ≡ mapping = (same_level t.frame.kind mapping t.frame.column c t.at).0 in
    open-is (is_key name) fs given es (level_of mapping c) h ∙ t.named (is_key name)
    ∙ ap (λ (k : Kind). some_name (is_key name) k t.frame.done || is_key name (head_of k t.frame.name)) same ∙ has-push name t.frame.done t.frame.name t.value

-- the next member of an open node
joined-code : (fs : List Frame) (given : Option Value) (kind : Kind) (name : List ℕ) (e : Entry) (es : List Entry) → Stands fs given es → e.head ≡ head_of kind name
    → awaited (level_of kind e.column) es ≡ false → level_open (level_of kind e.column) es ≡ true → fault_of (entered fs given kind name e) ≡ least (codes_at es e)
joined-code fs given kind name e es h head free has =
    let l : ℕ = level_of kind e.column in
    let t = settle-to l fs (value_of given) given es h (sym (level-is fs given es l h) ∙ has) in
    let done : Members = push t.frame.done t.frame.name t.value in
    let new : Frame = record t.frame { done = done; name = name } in
    rw (sym (awaited-is l fs given es h) ∙ free, t.is, eq-eqb (level t.frame) l t.at)
    (fault-cond (is_repeated kind name done) (Err Y5) (with_given (new ∷ t.outer) e.given) ∙ ap (cond (is_repeated kind name done) (Some Y5))
    (with_given-code (new ∷ t.outer) (length t.outer) e.given refl t.room))
    ∙ sym (fits-code e es kind name (is_repeated kind name done) (length t.outer) head (rw (free, has) refl)
    (top-repeats kind name e.column fs given es (value_of given) h t) (above-is l fs given es h ∙ t.above))

not-empty : (fs : List Frame) (given : Option Value) (es : List Entry) → 0 < length fs → Stands fs given es → is_empty es ≡ false
not-empty [] given es lt h = absurd (omega arith)
not-empty (f ∷ fs) given es lt h = ap is_empty h.3 ∙ behind h.0 (h.1 ++ h.2 ∷ []) (behind h.1 (h.2 ∷ []) refl)
  where
    behind : (a b : List Entry) → is_empty b ≡ false → is_empty (a ++ b) ≡ false
    behind [] b some = some
    behind (x ∷ a) b some = refl

place-by : (fs : List Frame) (given : Option Value) (kind : Kind) (name : List ℕ) (e : Entry) (es : List Entry) (a o : Bool) → 0 < length fs → Stands fs given es
    → e.head ≡ head_of kind name
    → awaited (level_of kind e.column) es ≡ a → level_open (level_of kind e.column) es ≡ o → fault_of (entered fs given kind name e) ≡ least (codes_at es e)
place-by fs given kind name e es true o lt h head is_awaited is_open = awaited-code fs given kind name e es h head is_awaited
place-by fs given kind name e es false true lt h head is_awaited is_open = joined-code fs given kind name e es h head is_awaited is_open
place-by fs given kind name e es false false lt h head is_awaited is_open =
    let l : ℕ = level_of kind e.column in
    ap fault_of (entered-not fs given kind name e es h (rw (is_awaited, is_open) refl))
    ∙ sym (code-by e es kind name false (repeats_kind kind name l es) (too_deep l es e.given) head (rw (not-empty fs given es lt h, is_awaited, is_open) refl) refl refl
    ∙ misfit (column_open e.column es) (repeats_kind kind name l es) (too_deep l es e.given))

-- ---- each state

first-code : (kind : Kind) (name : List ℕ) (e : Entry) (b : Bool) → e.head ≡ head_of kind name → (e.column == 0) ≡ b
    → fault_of (cond b (begun [] kind name e) (Err Y3)) ≡ least (codes_at [] e)
first-code kind name e b head is =
    let l : ℕ = level_of kind e.column in
    let d : Bool = deep_at 0 (is_node e.given) in
    by b (code-by e [] kind name b false d head (rw is (or-false b)) (kind-below kind e.column name [] None [] refl tt)
    (ap (λ m. deep_at m (is_node e.given)) (above-is l [] None [] refl ∙ no-levels l)))
  where
    or-false : (t : Bool) → (t || false) ≡ t
    or-false t = grind arith

    by : (t : Bool) → least (codes_at [] e) ≡ place_by t false false (deep_at 0 (is_node e.given)) → fault_of (cond t (begun [] kind name e) (Err Y3)) ≡ least (codes_at [] e)
    by true p = begun-code [] kind name e ∙ sym (p ∙ fitting false false (deep_at 0 (is_node e.given)))
    by false p = sym (p ∙ misfit false false (deep_at 0 (is_node e.given)))

-- behind a line that is a scalar or list no node is open, and none is awaited
after-code : (kind : Kind) (name : List ℕ) (e w : Entry) (v : Value) → e.head ≡ head_of kind name → w.head ≡ bare → w.given ≡ Some v → Some Y3 ≡ least (codes_at (w ∷ []) e)
after-code kind name e w v head is given =
    let l : ℕ = level_of kind e.column in
    let es : List Entry = w ∷ [] in
    sym (code-by e es kind name false (repeats_kind kind name l es) (too_deep l es e.given) head (rw (given, is) refl) refl refl
    ∙ ap (λ o. place_by false o (repeats_kind kind name l es) (too_deep l es e.given)) (alone-column w e.column is)
    ∙ misfit false (repeats_kind kind name l es) (too_deep l es e.given))
  where
    alone-column : (x : Entry) (c : ℕ) → x.head ≡ bare → column_open c (x ∷ []) ≡ false
    alone-column x c e' = rw e' refl

member-code : (st : State) (kind : Kind) (name : List ℕ) (e : Entry) (es : List Entry) → StateStands st es → e.head ≡ head_of kind name
    → fault_of (member_next st e kind name) ≡ least (codes_at es e)
member-code start kind name e es h head = first-code kind name e (e.column == 0) head refl ∙ ap (λ x. least (codes_at x e)) (sym h)
member-code (whole v) kind name e es h head = after-code kind name e h.0 v head h.2 h.4 ∙ ap (λ x. least (codes_at x e)) (sym h.1)
member-code (inside fs given) kind name e es h head =
    place-by fs given kind name e es (awaited (level_of kind e.column) es) (level_open (level_of kind e.column) es) h.0 h.1 head refl refl

-- an entry without dash and key has a value
abbrev pub HasGiven : Head → Option Value → Type 0
HasGiven bare None = ⊥
HasGiven head given = ⊤

abbrev pub AllGiven : List Entry → Type 0
AllGiven es = EachEntry (λ e. HasGiven e.head e.given) es

bare-code : (e : Entry) (es : List Entry) (f : Bool) → e.head ≡ bare → (is_empty es && (e.column == 0)) ≡ f
    → least (codes_at es e) ≡ place_by f (column_open e.column es) false false
bare-code e es f head is = rw (head, is) (by f (column_open e.column es))
  where
    by : (t o : Bool) → place_by (t || false) o false false ≡ place_by t o false false
    by t o = grind arith

bare-first : (given : Option Value) (b : Bool) → HasGiven bare given → fault_of (cond b (whole_of given) (Err Y3)) ≡ place_by b false false false
bare-first None b h = absurd h
bare-first (Some v) true h = refl
bare-first (Some v) false h = refl

bare-step : (st : State) (e : Entry) (es : List Entry) → StateStands st es → e.head ≡ bare → HasGiven bare e.given → fault_of (bare_next st e) ≡ least (codes_at es e)
bare-step start e es h head given =
    bare-first e.given (e.column == 0) given ∙ sym (bare-code e [] (e.column == 0) head refl) ∙ ap (λ x. least (codes_at x e)) (sym h)
bare-step (whole v) e es h head given =
    sym (bare-code e (h.0 ∷ []) false head refl ∙ rw h.2 refl) ∙ ap (λ x. least (codes_at x e)) (sym h.1)
bare-step (inside fs g) e es h head given =
    ap (λ c. Some c) (misplaced-is e.column fs g es h.1)
    ∙ sym (bare-code e es false head (rw (not-empty fs g es h.0 h.1) refl) ∙ misfit (column_open e.column es) false false)

step-by : (hd : Head) (st : State) (e : Entry) (es : List Entry) → e.head ≡ hd → StateStands st es → HasGiven hd e.given → fault_of (next_by hd st e) ≡ least (codes_at es e)
step-by dash st e es head h given = member-code st sequence [] e es h head
step-by (key k) st e es head h given = member-code st mapping k e es h head
step-by bare st e es head h given = bare-step st e es h head given

-- ---- entries one after the other

first-of : (cs more : List Code) (c : Code) → least cs ≡ Some c → least (or_else cs more) ≡ Some c
first-of [] more c e = absurd cc
first-of (d ∷ cs) more c e = e

second-of : (cs more : List Code) → least cs ≡ None → least (or_else cs more) ≡ least more
second-of [] more e = refl
second-of (d ∷ cs) more e = absurd cc

run-by : (r : Result State Code) (st : State) (e : Entry) (es more : List Entry) → next st e ≡ r → least (codes_at es e) ≡ fault_of r
    → ((t : State) → next st e ≡ Ok t → fault_of (run t more) ≡ least (place_codes (es ++ e ∷ []) more))
    → fault_of (r >>= λ t. run t more) ≡ least (place_codes es (e ∷ more))
run-by (Ok t) st e es more is code ih = ih t is ∙ sym (second-of (codes_at es e) (place_codes (es ++ e ∷ []) more) code)
run-by (Err c) st e es more is code ih = sym (first-of (codes_at es e) (place_codes (es ++ e ∷ []) more) c code)

-- Reading entries stops with the least code of the first that cannot stand where it is.
pub run-code : (st : State) (es more : List Entry) → StateStands st es → AllGiven more → fault_of (run st more) ≡ least (place_codes es more)
run-code st es [] h given = refl
run-code st es (e ∷ more) h given =
    run-by (next st e) st e es more refl (sym (step-by e.head st e es refl h given.0)) (λ t is. run-code t (es ++ e ∷ []) more (next-stands st e es t is h) given.1)
