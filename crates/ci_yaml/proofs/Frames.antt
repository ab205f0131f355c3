-- The open nodes as the code has them, the last the innermost.
use Rattle.std.proofs.Common.{◌≡◌, ℕ, true, nat_lt, ◌∙◌, ◌-◌, ◌≤◌, length, take, get_or, List, [], ◌∷◌, ◌++◌, refl, ap, sym}
use Rattle.ci_yaml_lines.proofs.Lists.{last-parted}
use Rattle.ci_yaml.specs.Prelude.{Value, frame_view, frames_onto, frames_view}
use Rattle.ci_yaml.specs.Reading as reading
use Rattle.ci_yaml.specs.declared.progress.Frame.{Frame}

frames-onto-push : (fs : List Frame) (f : Frame) (gs : List reading.Frame) → frames_onto (fs ++ f ∷ []) gs ≡ frame_view f ∷ frames_onto fs gs
frames-onto-push [] f gs = refl
frames-onto-push (g ∷ fs) f gs = frames-onto-push fs f (frame_view g ∷ gs)

pub frames-push : (fs : List Frame) (f : Frame) → frames_view (fs ++ f ∷ []) ≡ frame_view f ∷ frames_view fs
frames-push fs f = frames-onto-push fs f []

pub top_is : (fs : List Frame) (f : Frame) → 1 ≤ length fs → f ≡ get_or fs (length fs - 1) f → frames_view fs ≡ frame_view f ∷ frames_view (take (length fs - 1) fs)
top_is fs f lt is =
    let parts : fs ≡ take (length fs - 1) fs ++ f ∷ [] = last-parted fs f lt ∙ ap (λ (x : Frame). take (length fs - 1) fs ++ x ∷ []) (sym is) in
    ap frames_view parts ∙ frames-push (take (length fs - 1) fs) f

pub settle-closes : (l : ℕ) (old init : List Frame) (f : Frame) (v w : Value) → old ≡ init ++ f ∷ [] → reading.top_deeper l (frames_view old) ≡ true → w ≡ reading.closed (frame_view f) v
    → reading.settle l (frames_view init) w ≡ reading.settle l (frames_view old) v
settle-closes l old init f v w parts deep is =
    let top : nat_lt l (reading.level (frame_view f)) ≡ true = rw (parts, frames-push init f) at deep in
    rw (parts, frames-push init f, top, is) refl

pub closes-next : (old init : List Frame) (f : Frame) (v w : Value) → old ≡ init ++ f ∷ [] → w ≡ reading.closed (frame_view f) v → reading.close_all (frames_view init) w ≡ reading.close_all (frames_view old) v
closes-next old init f v w parts is = rw (parts, frames-push init f, is) refl
