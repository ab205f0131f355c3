use Rattle.std.proofs.Common.{sym, subst, List}
use Rattle.ci_memory_queue.specs.declared.lines.Line.{Line}
use Rattle.ci_memory_queue.specs.LineCovers.{line_of, IsInLine}
use Rattle.ci_memory_queue.proofs.Finds.{append_there, append_keeps}
use Rattle.ci_memory_queue.proofs.lines.groups.begin.Goals as goal

-- the new line has the job
pub returns-clause-there : goal.returns-clause-there
returns-clause-there c =
    subst (λ (ls : List Line). IsInLine (line_of ls c.args.project c.args.group) c.args.is_ready c.args.job) (sym c.in_ok-push.ensures.items)
    (append_there c.args.lines.now.items c.put_into.new.line c.args.project c.args.group c.args.is_ready c.args.job c.put_into.ensures.project c.put_into.ensures.group c.requires c.in_ok-put_into.ensures.there)

-- the others stay
pub returns-clause-keeps : goal.returns-clause-keeps
returns-clause-keeps c = λ p g ready n has.
    subst (λ (ls : List Line). IsInLine (line_of ls p g) ready n) (sym c.in_ok-push.ensures.items) (append_keeps c.args.lines.now.items c.put_into.new.line p g ready n has)
