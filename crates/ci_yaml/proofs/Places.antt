-- How many nodes are open above a level, by the entries read and by the nodes that the code keeps open.
use Rattle.std.proofs.Common.{◌≡◌, ℕ, zero, suc, ◌<◌, ◌≤◌, Bool, true, false, cond, List, [], ◌∷◌, length, Option, None, refl, sym, ◌∙◌, ap, arith, inl, inr, ◌==◌, ◌||◌}
use Rattle.std.specs.Prelude.{⊤}
use Rattle.std.proofs.lemmas.Bool.{cases_lt, eq-eqb, ne_eqb}
use Rattle.ci_yaml.specs.Prelude.{Value, Entry, level, level_open, opens_above}
use Rattle.ci_yaml.specs.Reading.{Frame}
use Rattle.ci_yaml.proofs.Sound.{Stands}
use Rattle.ci_yaml.proofs.Opened.{some_name, frames_with, AllBelow, none-below, below-more, stands-below, open-is}

-- one of these open nodes is at level l
abbrev pub has_level : ℕ → List Frame → Bool
has_level l [] = false
has_level l (f ∷ fs) = (level f == l) || has_level l fs

level-with : (l : ℕ) (fs : List Frame) → frames_with (λ head. true) l fs ≡ has_level l fs
level-with l [] = refl
level-with l (f ∷ fs) = rw (level-with l fs) (by (level f == l) (some_name (λ head. true) f.kind f.done) (has_level l fs))
  where
    by : (t x r : Bool) → cond t (x || true) r ≡ (t || r)
    by t x r = grind arith

pub level-is : (fs : List Frame) (given : Option Value) (es : List Entry) (l : ℕ) → Stands fs given es → level_open l es ≡ has_level l fs
level-is fs given es l h = open-is (λ head. true) fs given es l h ∙ level-with l fs

pub no-level : (fs : List Frame) (l : ℕ) → AllBelow fs l → has_level l fs ≡ false
no-level fs l h = sym (level-with l fs) ∙ none-below (λ head. true) fs l h

abbrev pub Ascend : List Frame → Type 0
Ascend [] = ⊤
Ascend (f ∷ fs) = AllBelow fs (level f) × Ascend fs

pub stands-ascend : (fs : List Frame) (given : Option Value) (es : List Entry) → Stands fs given es → Ascend fs
stands-ascend [] given es h = tt
stands-ascend (f ∷ fs) given es h = (stands-below fs None h.0 (level f) h.11 h.10, stands-ascend fs None h.0 h.11)

abbrev pub levels_above : ℕ → List Frame → ℕ
levels_above zero fs = 0
levels_above (suc l) fs = cond (has_level l fs) (suc (levels_above l fs)) (levels_above l fs)

pub above-is : (l : ℕ) (fs : List Frame) (given : Option Value) (es : List Entry) → Stands fs given es → opens_above l es ≡ levels_above l fs
above-is zero fs given es h = refl
above-is (suc l) fs given es h = rw (level-is fs given es l h, above-is l fs given es h) refl

pub no-levels : (l : ℕ) → levels_above l [] ≡ 0
no-levels zero = refl
no-levels (suc l) = no-levels l

-- the innermost is not above it
pub above-inner : (l : ℕ) (f : Frame) (fs : List Frame) → l ≤ level f → levels_above l (f ∷ fs) ≡ levels_above l fs
above-inner zero f fs le = refl
above-inner (suc l) f fs le = rw (ne_eqb (level f) l (λ e. omega arith), above-inner l f fs (omega arith)) refl

-- all are above it
above-one : (l : ℕ) (f : Frame) (fs : List Frame) → levels_above (level f) fs ≡ length fs → level f < l → AllBelow fs (level f) → levels_above l (f ∷ fs) ≡ suc (length fs)
above-one zero f fs ih lt up = absurd (omega arith)
above-one (suc l) f fs ih lt up = elim (cases_lt (level f) l) [
  | inl less ↦ rw (ne_eqb (level f) l (λ e. omega arith), no-level fs l (below-more fs (level f) l (omega arith) up)) (above-one l f fs ih less up)
  | inr more ↦
      let same : l ≡ level f = omega arith in
      rw (eq-eqb (level f) l (sym same)) (ap suc (above-inner l f fs (omega arith) ∙ ap (λ n. levels_above n fs) same ∙ ih))
]

pub above-all : (l : ℕ) (fs : List Frame) → Ascend fs → AllBelow fs l → levels_above l fs ≡ length fs
above-all l [] up below = no-levels l
above-all l (f ∷ fs) up below = above-one l f fs (above-all (level f) fs up.1 up.0) below.0 up.0
