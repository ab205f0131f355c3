use Rattle.std.proofs.Common.{rules, ◌≡◌, subst, None}
use Rattle.sqlite.specs.Steps.{over_memory}
use Rattle.ci_machine_steps.specs.Prelude.{Event, Answer}
use Rattle.ci_machine_laws.specs.Examples.{seed}
use Rattle.ci_server.specs.Prelude.{Handles}
use Rattle.ci_server_witness.proofs.LifeLemmas.{made_at, unmade}
use Rattle.ci_server_witness.proofs.life.taken.Goals as goal

pub returns-then-is_none-clause-taken : goal.returns-then-is_none-clause-taken
returns-then-is_none-clause-taken c ops s plan was is =
    let now : c.in-Some.moment ≡ 1000 = search rules in
    let taken : c.handle-reply.result.code ≡ None = search rules in
    let handled = subst (λ n. Handles over_memory c.args.server (Event.Request c.args.request, n, seed) c.handle-reply.new.self (Answer.Reply c.handle-reply.result)) now c.handle-reply.ensures.handled in
    made_at ops s c.args.request plan c.args.server c.handle-reply.new.self c.handle-reply.result was is handled taken

pub returns-else-is_none-clause-stopped : goal.returns-else-is_none-clause-stopped
returns-else-is_none-clause-stopped c ops s plan was is =
    let now : c.in-Some.moment ≡ 1000 = search rules in
    let other : c.handle-reply.result.code ≡ None → ⊥ = search rules in
    let handled = subst (λ n. Handles over_memory c.args.server (Event.Request c.args.request, n, seed) c.handle-reply.new.self (Answer.Reply c.handle-reply.result)) now c.handle-reply.ensures.handled in
    unmade ops s c.args.request plan c.args.server c.handle-reply.new.self c.handle-reply.result was is handled other
