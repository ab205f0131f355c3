use Rattle.std.proofs.Common.{Contains, slice_set, sym, ap, subst, ◌∙◌}
use Rattle.std.proofs.lemmas.List.{get_or_default}
use Rattle.std.proofs.lemmas.Result.{on_ok_weaker}
use Rattle.ci_memory_queue.specs.declared.queue.Class.{Class}
use Rattle.ci_memory_queue.proofs.Sets.{among_one, among_set, set_new}
use Rattle.ci_memory_queue.proofs.classes.put_at.Goals as goal

-- the class at the place has the job now
pub returns-clause-there : goal.returns-clause-there
returns-clause-there c =
    let classes = c.args.classes.now.items in
    let place = c.args.place in
    let old = c.index_mut.result.now in
    let new : Class = record { asks = old.asks; jobs = c.put.new.jobs } in
    on_ok_weaker c.put.result
    (λ has d. among_one (slice_set classes place new) _ c.args.job new (set_new classes place new c.requires)
    (ap (λ (x : Class). x.asks) (c.index_mut.ensures.value ∙ get_or_default classes place old d c.requires)) has)
    c.put.ensures.there

-- those of others stay, and those that it had
pub returns-clause-keeps : goal.returns-clause-keeps
returns-clause-keeps c = λ asks n.
    let classes = c.args.classes.now.items in
    let old = c.index_mut.result.now in
    let new : Class = record { asks = old.asks; jobs = c.put.new.jobs } in
    among_set classes c.args.place old new asks n c.requires (ap (λ (x : Class). x.asks) c.index_mut.ensures.value)
    (λ _ had. c.put.ensures.keeps n (subst (λ (x : Class). Contains x.jobs.keys n) (sym c.index_mut.ensures.value) had))
