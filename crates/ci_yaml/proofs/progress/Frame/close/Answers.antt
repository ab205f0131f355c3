use Rattle.std.proofs.Common.{append_assoc}
use Rattle.ci_yaml.proofs.progress.Frame.close.Goals as goal

pub returns-in-Items-clause-value : goal.returns-in-Items-clause-value
returns-in-Items-clause-value c = rw (c.in-Items.is, ← c.in-Items.items-is) c.with_item.ensures.value

pub returns-in-Items-clause-spans : goal.returns-in-Items-clause-spans
returns-in-Items-clause-spans c = rw (c.in-Items.is, ← c.in-Items.items-is) c.with_item.ensures.spans

pub returns-in-Pairs-clause-spans : goal.returns-in-Pairs-clause-spans
returns-in-Pairs-clause-spans c = rw (c.in-Pairs.is, append_assoc) (rw (c.in-Pairs.map-is, c.in-Pairs.key-is) at c.with_pair.ensures.spans)
