use Rattle.std.proofs.Common.{◌∙◌, sym}
use Rattle.ci_machine_statuses.proofs.Positions.{numbers_ascend, place_found, place_there}
use Rattle.ci_machine_statuses.proofs.places.place_of.Goals as goal

-- of ascending numbers each has one place
pub returns-in-Some-clause-place : goal.returns-in-Some-clause-place
returns-in-Some-clause-place c = λ up. sym (place_there c.args.numbers.now c.args.n c.in-Some.place (numbers_ascend c.args.numbers.now up) c.in-Some.ensures.within c.in-Some.ensures.there)

pub returns-in-None-clause-place : goal.returns-in-None-clause-place
returns-in-None-clause-place c = λ up. c.ok.ensures.value ∙ place_found _ _ _ c.binary_search.ensures.position up
