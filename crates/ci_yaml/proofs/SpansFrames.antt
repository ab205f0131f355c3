-- The texts of trees and open nodes that grow at their end.
use Rattle.std.proofs.Common.{◌≡◌, ℕ, List, [], ◌∷◌, ◌++◌, refl, append_assoc, append-nil}
use Rattle.ci_yaml.specs.Prelude.{Text, Tree, Pairs, OpenMap, texts_in, pairs_texts, open_texts, frames_texts}
use Rattle.ci_yaml.specs.declared.progress.Frame.{Frame}

pub frames_texts-push : (fs : List Frame) (f : Frame) → frames_texts (fs ++ f ∷ []) ≡ frames_texts fs ++ open_texts f.members
frames_texts-push [] f = append-nil (open_texts f.members)
frames_texts-push (g ∷ fs) f = rw (frames_texts-push fs f, append_assoc (open_texts g.members) (frames_texts fs) (open_texts f.members)) refl

-- open nodes and a value, once the innermost is closed with it
pub closes-texts : (old init : List Frame) (f : Frame) (v w : Tree) → old ≡ init ++ f ∷ [] → texts_in w ≡ open_texts f.members ++ texts_in v
    → frames_texts init ++ texts_in w ≡ frames_texts old ++ texts_in v
closes-texts old init f v w parts is = rw (parts, is, frames_texts-push init f, append_assoc (frames_texts init) (open_texts f.members) (texts_in v)) refl

-- the innermost node gets more members
pub more-texts : (old init new : List Frame) (f g : Frame) (ts : List Text) → old ≡ init ++ f ∷ [] → new ≡ init ++ g ∷ [] → open_texts g.members ≡ open_texts f.members ++ ts
    → frames_texts new ≡ frames_texts old ++ ts
more-texts old init new f g ts parts to is =
    rw (parts, to, frames_texts-push init f, frames_texts-push init g, is, append_assoc (frames_texts init) (open_texts f.members) ts) refl

pub pair-texts : (old init new : List Frame) (map more : OpenMap) (last name : Text) (c : ℕ) (v : Tree) → old ≡ init ++ (record { column = c; members = Pairs map last }) ∷ []
    → new ≡ init ++ (record { column = c; members = Pairs more name }) ∷ [] → pairs_texts more.pairs.items ≡ pairs_texts map.pairs.items ++ last ∷ texts_in v
    → frames_texts new ≡ frames_texts old ++ (texts_in v ++ name ∷ [])
pair-texts old init new map more last name c v parts to is =
    more-texts old init new (record { column = c; members = Pairs map last }) (record { column = c; members = Pairs more name }) (texts_in v ++ name ∷ []) parts to
    (rw (is, append_assoc (pairs_texts map.pairs.items) (last ∷ texts_in v) (name ∷ []), append_assoc (pairs_texts map.pairs.items) (last ∷ []) (texts_in v ++ name ∷ [])) refl)
