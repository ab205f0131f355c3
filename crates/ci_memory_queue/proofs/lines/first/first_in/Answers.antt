use Rattle.std.proofs.Common.{refl}
use Rattle.ci_machine_steps.specs.Prelude.{OldestFirst, NewestReadyFirst}
use Rattle.ci_server_lookups.proofs.Loading.{says}
use Rattle.ci_memory_queue.specs.declared.lines.Line.{Line}
use Rattle.ci_memory_queue.proofs.LineFirsts.{keeps_waiting, keeps_ready, first_by}
use Rattle.ci_memory_queue.proofs.lines.first.first_in.Goals as goal

pub returns-in-OldestFirst-clause-keeps : goal.returns-in-OldestFirst-clause-keeps
returns-in-OldestFirst-clause-keeps g c =
    let old = c.args.line.now in
    let new : Line = record { project = old.project; group = old.group; waiting = c.first_of.new.jobs; ready = old.ready } in
    says g.T.Store.honest g.T.Store.holds g.T.Store.leaves _ _ _ c.first_of.result c.first_of.ensures.keeps
    (λ k found is its. keeps_waiting k c.args.order old new c.in-OldestFirst.is refl its)

pub returns-in-OldestFirst-clause-first : goal.returns-in-OldestFirst-clause-first
returns-in-OldestFirst-clause-first g c =
    let old = c.args.line.now in
    let new : Line = record { project = old.project; group = old.group; waiting = c.first_of.new.jobs; ready = old.ready } in
    says g.T.Store.honest g.T.Store.holds g.T.Store.leaves _ _ _ c.first_of.result c.first_of.ensures.first
    (λ k found is its. first_by k c.args.order new OldestFirst old.project old.group found c.in-OldestFirst.is its)

pub returns-in-NewestReadyFirst-clause-keeps : goal.returns-in-NewestReadyFirst-clause-keeps
returns-in-NewestReadyFirst-clause-keeps g c =
    let old = c.args.line.now in
    let new : Line = record { project = old.project; group = old.group; waiting = old.waiting; ready = c.first_of-in-NewestReadyFirst.new.jobs } in
    says g.T.Store.honest g.T.Store.holds g.T.Store.leaves _ _ _ c.first_of-in-NewestReadyFirst.result c.first_of-in-NewestReadyFirst.ensures.keeps
    (λ k found is its. keeps_ready k c.args.order old new c.in-NewestReadyFirst.is refl its)

pub returns-in-NewestReadyFirst-clause-first : goal.returns-in-NewestReadyFirst-clause-first
returns-in-NewestReadyFirst-clause-first g c =
    let old = c.args.line.now in
    let new : Line = record { project = old.project; group = old.group; waiting = old.waiting; ready = c.first_of-in-NewestReadyFirst.new.jobs } in
    says g.T.Store.honest g.T.Store.holds g.T.Store.leaves _ _ _ c.first_of-in-NewestReadyFirst.result c.first_of-in-NewestReadyFirst.ensures.first
    (λ k found is its. first_by k c.args.order new NewestReadyFirst old.project old.group found c.in-NewestReadyFirst.is its)
