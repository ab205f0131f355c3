use Rattle.std.proofs.Common.{◌≡◌, slice_index_or, List, [], subst}
use Rattle.std.proofs.lemmas.Result.{on_ok_weaker}
use Rattle.ci_memory_queue.specs.declared.queue.Asks.{Asks}
use Rattle.ci_memory_queue.specs.declared.queue.Class.{Class}
use Rattle.ci_memory_queue.specs.Covers.{IsAmong}
use Rattle.ci_memory_queue.proofs.classes.put_in.Goals as goal

-- the class at the place asks this
pub returns-in-Some-clause-there : goal.returns-in-Some-clause-there
returns-in-Some-clause-there c =
    let d : Class = record { asks = c.args.asks; jobs = record { keys = [] } } in
    let same : (slice_index_or c.args.classes.now.items c.in-Some.place d).asks ≡ c.args.asks = subst (λ (xs : List Class). (slice_index_or xs c.in-Some.place d).asks ≡ c.args.asks) c.as_slice.ensures.value (c.in-Some.ensures.1 d) in
    on_ok_weaker c.put_at.result (λ there. subst (λ (a : Asks). IsAmong c.put_at.new.classes.items a c.args.job) same (there d)) c.put_at.ensures.there
