use Rattle.std.proofs.Common.{◌&&◌, not, sym, ap, ◌∙◌}
use Rattle.std.specs.List.{list_any}
use Rattle.ci_machine.specs.Prelude.{holds, is_behind, order_of, held_among, groups_among}
use Rattle.ci_machine.proofs.Claims.{free_by}
use Rattle.ci_machine.proofs.choose.resource_free.Goals as goal

pub returns-then-not-is_held_among : goal.returns-then-not-is_held_among
returns-then-not-is_held_among c =
    let q = c.args.queued.now in
    ap (λ b. not b && not c.is_behind.result) (sym c.if-not-is_held_among.true ∙ c.is_held_among.ensures)
    ∙ (ap (λ b. not (list_any (holds q.project c.in-Some.group) (held_among c.args.live.now)) && not b) c.is_behind.ensures
    ∙ free_by (groups_among c.args.live.now c.args.modes.now c.args.waiting.now) q c.in-Some.group c.in-Some.is)

pub returns-else-not-is_held_among : goal.returns-else-not-is_held_among
returns-else-not-is_held_among c =
    let q = c.args.queued.now in
    let behind = is_behind (order_of c.args.modes.now q.project c.in-Some.group) c.args.waiting.now q.project q.job.pipeline c.in-Some.group in
    ap not c.if-not-is_held_among.false
    ∙ (ap (λ b. not b && not behind) (sym c.if-not-is_held_among.false ∙ c.is_held_among.ensures)
    ∙ free_by (groups_among c.args.live.now c.args.modes.now c.args.waiting.now) q c.in-Some.group c.in-Some.is)
