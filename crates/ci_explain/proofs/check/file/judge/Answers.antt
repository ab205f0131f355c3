use Rattle.ci_explain.proofs.Fitting.{first-fits}
use Rattle.ci_explain.proofs.check.file.judge.Goals as goal

pub returns-in-Ok : goal.returns-in-Ok
returns-in-Ok g c =
    first-fits (g.R.Read.remaining c.args.reader) c.in-Ok.bytes.items c.deref.result.now c.verdict_of.result c.in-Ok.ensures.bytes c.deref.ensures.value c.verdict_of.ensures.fits c.verdict_of.ensures.too_long
