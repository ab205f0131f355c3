use Rattle.ci_yaml.proofs.LinesSound.{lines-stand}
use Rattle.ci_yaml.proofs.Trees.{stops, stop-is_first}
use Rattle.ci_yaml.proofs.LeastCodes.{stop-least}
use Rattle.ci_yaml.proofs.laws.stops_first.Goals as goal

pub returns : goal.returns
returns c =
    λ ls code e. let at = stops ls code e in
    let s = at.1 in
    let f = stop-is_first ls at.0 code s in
    (s.before, s.stop, s.after, s.parts, f.0, f.1, stop-least s.before s.stop s.reader code (lines-stand s.before s.reader s.read) s.fault)
