-- Which looks were made, and why they weren't.
use Rattle.std.specs.Prelude.{◌≡◌, ◌≢◌, List, [], map, ⊤}
use Rattle.ci_expr.specs.declared.answers.Answers.{Answers}
use Rattle.ci_expr.specs.declared.fault.ExprCode.TheVariants.{X8}
use Rattle.ci_expr.specs.declared.fault.ExprFault.{ExprFault}
use Rattle.ci_expr.specs.Built.{Look, look_view, same_look}
use Rattle.ci_expr.specs.Distinct.{AreAmong}

-- the looks that were made
abbrev pub answered : Answers → List Look
answered a = map (λ x. look_view x.look) a.answers.items

-- each of these was made
abbrev pub AreAnswered : Answers → List Look → Type 0
AreAnswered a ls = AreAmong same_look ls (answered a)

-- these weren't, since memory was refused, or a pattern of theirs
abbrev pub RefusesLooks : ExprFault → List Look → Type 0
RefusesLooks ExprFault.Memory ls = ⊤
RefusesLooks (ExprFault.Fault x) ls = (x ≡ X8) × (ls ≢ [])
