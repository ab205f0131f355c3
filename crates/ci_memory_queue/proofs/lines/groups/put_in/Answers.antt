use Rattle.std.proofs.Common.{◌≡◌, List, None, sym, subst, ◌∙◌}
use Rattle.std.specs.List.{position}
use Rattle.ci_memory_queue.specs.declared.lines.Line.{Line}
use Rattle.ci_memory_queue.specs.LineCovers.{is_line_of}
use Rattle.ci_memory_queue.proofs.Finds.{none_found}
use Rattle.ci_memory_queue.proofs.lines.groups.put_in.Goals as goal

-- there is no line of the group
pub begin-requires : goal.begin-requires
begin-requires c =
    let its = is_line_of c.args.project c.args.group in
    none_found its c.args.lines.now.items (subst (λ (ls : List Line). position its ls ≡ None) c.as_slice.ensures.value (sym c.index_of.ensures ∙ c.in-None.is))
