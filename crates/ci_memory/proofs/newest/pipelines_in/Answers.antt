use Rattle.std.proofs.Common.{sym, ◌∙◌}
use Rattle.std.proofs.lemmas.Option.{IfSome_then}
use Rattle.ci_memory.proofs.Listed.{list_found}
use Rattle.ci_memory.proofs.newest.pipelines_in.Goals as goal

pub returns : goal.returns
returns c =
    IfSome_then c.copies_of.result c.copies_of.ensures (λ copies same s all.
    same ∙ list_found s c.args.project c.args.count c.in_ok-list.list.now c.args.lists.now (sym c.in_ok-list.ensures) all)
