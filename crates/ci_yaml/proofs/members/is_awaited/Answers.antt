use Rattle.std.proofs.Common.{◌∙◌, ap, sym, None, nat_lt}
use Rattle.ci_yaml.specs.Prelude.{begins, frames_view, given_view}
use Rattle.ci_yaml.proofs.Frames.{top_is}
use Rattle.ci_yaml.proofs.members.is_awaited.Goals as goal

pub returns-in-len1-up : goal.returns-in-len1-up
returns-in-len1-up c =
    let l = c.args.level in
    ap (λ n. nat_lt n l) c.level.ensures
    ∙ sym (ap (λ g. begins l (frames_view c.args.frames.now) (given_view g)) c.in-None.is
    ∙ ap (λ fs. begins l fs None) (top_is c.args.frames.now c.frame-item.result c.in-len1-up.len_at_least c.frame-item.is))
