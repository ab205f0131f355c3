use Rattle.std.proofs.Common.{◌∙◌, ap, sym, cond, length, Err, ◌∷◌}
use Rattle.std.proofs.lemmas.Bool.{lt-ltb, le-ltb}
use Rattle.ci_yaml.specs.Prelude.{Y10, MAX_DEPTH, with_given, frames_view, frame_view, frames_texts}
use Rattle.ci_yaml.proofs.Frames.{frames-push}
use Rattle.ci_yaml.proofs.Steps.{full-deep, full-room}
use Rattle.ci_yaml.proofs.SpansFrames.{frames_texts-push}
use Rattle.ci_yaml.proofs.nodes.begin.Goals as goal

pub returns-then-is_full-clause-value : goal.returns-then-is_full-clause-value
returns-then-is_full-clause-value c =
    λ g. ap (λ b. cond b (with_given (frame_view c.args.frame ∷ frames_view c.args.frames.now.items) g) (Err Y10))
    (le-ltb _ _ (full-deep c.args.frames.now.items c.deref.result.now c.deref.ensures.value c.if-is_full.ensures))

pub returns-clause-value : goal.returns-clause-value
returns-clause-value c =
    λ g. let old = frames_view c.args.frames.now.items in
    let room = lt-ltb (length old) MAX_DEPTH (full-room c.args.frames.now.items c.deref.result.now c.deref.ensures.value c.if-is_full.ensures) in
    ap (λ b. cond b (with_given (frame_view c.args.frame ∷ old) g) (Err Y10)) room
    ∙ sym (ap (λ fs. with_given fs g) (ap frames_view c.in_ok-push.ensures.items ∙ frames-push c.args.frames.now.items c.args.frame))

pub returns-clause-spans : goal.returns-clause-spans
returns-clause-spans c = ap frames_texts c.in_ok-push.ensures.items ∙ frames_texts-push c.args.frames.now.items c.args.frame
