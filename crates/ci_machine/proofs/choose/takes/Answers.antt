use Rattle.std.proofs.Common.{◌≡◌, ℕ, ◌==◌, false, List, [], ◌∷◌, length, refl, sym, ◌∙◌}
use Rattle.std.specs.List.{list_all}
use Rattle.std.proofs.lemmas.Bool.{false≢true}
use Rattle.ci_machine.specs.Prelude.{Runner, has_tag, takes}
use Rattle.ci_machine.proofs.choose.takes.Goals as goal

some : (runner : Runner) (tags : List (List ℕ)) → (length tags == 0) ≡ false → list_all (has_tag runner) tags ≡ takes runner tags
some runner [] e = absurd (false≢true (sym e))
some runner (tag ∷ tags) e = refl

pub returns : goal.returns
returns c = c.has_all.ensures ∙ some c.args.runner.now c.args.tags.now (sym c.is_empty.ensures ∙ c.if-is_empty.false)
