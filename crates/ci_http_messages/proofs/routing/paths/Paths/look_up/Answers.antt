use Rattle.std.proofs.Common.{ap, ◌∙◌}
use Rattle.ci_http_messages.specs.Prelude.{asked_of}
use Rattle.ci_http_messages.proofs.Groups.{leads, leads-nowhere}
use Rattle.ci_http_messages.proofs.routing.paths.Paths.look_up.Goals as goal

pub returns-in-Some : goal.returns-in-Some
returns-in-Some c =
    ap (asked_of c.args.method.now) (leads c.args.path.now c.in-Some.place c.in-Some.ensures) ∙ c.lookup_at.ensures

pub returns-in-None : goal.returns-in-None
returns-in-None c = ap (asked_of c.args.method.now) (leads-nowhere c.args.path.now c.in-None.ensures)
