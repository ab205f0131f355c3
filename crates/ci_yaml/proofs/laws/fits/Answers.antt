use Rattle.ci_yaml.proofs.Shapes.{tree-fits}
use Rattle.ci_yaml.proofs.laws.fits.Goals as goal

pub returns : goal.returns
returns c = λ bytes v h. tree-fits bytes v h
