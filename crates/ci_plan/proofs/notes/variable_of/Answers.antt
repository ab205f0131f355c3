use Rattle.std.proofs.Common.{sym, ap, ◌∙◌, lit<}
use Rattle.std.proofs.lemmas.Str.Pattern.{strip_prefix_char}
use Rattle.ci_plan.specs.Notes.{name_by}
use Rattle.ci_plan.proofs.Noting.{name_is}
use Rattle.ci_plan.proofs.notes.variable_of.Goals as goal

pub returns-in-Name : goal.returns-in-Name
returns-in-Name c =
    let slice = c.args.token.now.slice.now in
    name_is slice c.strip_prefix.result (strip_prefix_char 36 slice c.strip_prefix.result c.strip_prefix.ensures.cases (lit< tt)) ∙ ap (name_by slice) (sym c.in-Name.is)
