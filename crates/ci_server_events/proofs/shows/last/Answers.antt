use Rattle.ci_server_events.proofs.Lists.{popped}
use Rattle.ci_server_events.proofs.shows.last.Goals as goal

pub returns : goal.returns
returns c = popped _ _ c.args.attempts.items c.pop.new.self.items c.pop.result c.args.attempts.ok.0 c.pop.ensures.cases c.pop.ensures.items
