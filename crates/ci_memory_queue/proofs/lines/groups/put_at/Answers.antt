use Rattle.std.proofs.Common.{sym, ap, subst, ◌∙◌}
use Rattle.std.proofs.lemmas.Result.{on_ok_weaker}
use Rattle.ci_memory_queue.specs.declared.lines.Line.{Line}
use Rattle.ci_memory_queue.specs.LineCovers.{IsIn}
use Rattle.ci_memory_queue.proofs.Finds.{set_there, set_keeps}
use Rattle.ci_memory_queue.proofs.lines.groups.put_at.Goals as goal

-- the line has the job now
pub returns-clause-there : goal.returns-clause-there
returns-clause-there c =
    let old = c.index_mut.result.now in
    on_ok_weaker c.put_into.result
    (λ has p g at. set_there c.args.lines.now.items c.args.index c.put_into.new.line old
    (c.put_into.ensures.project ∙ ap (λ (x : Line). x.project) c.index_mut.ensures.value) (c.put_into.ensures.group ∙ ap (λ (x : Line). x.group) c.index_mut.ensures.value)
    p g c.args.is_ready c.args.job at has)
    c.put_into.ensures.there

-- and those that it had, and the others
pub returns-clause-keeps : goal.returns-clause-keeps
returns-clause-keeps c = λ p g ready n.
    let old = c.index_mut.result.now in
    set_keeps c.args.lines.now.items c.args.index c.put_into.new.line old
    (c.put_into.ensures.project ∙ ap (λ (x : Line). x.project) c.index_mut.ensures.value) (c.put_into.ensures.group ∙ ap (λ (x : Line). x.group) c.index_mut.ensures.value)
    c.requires (λ r m has. c.put_into.ensures.keeps r m (subst (IsIn r m) (sym c.index_mut.ensures.value) has)) p g ready n
