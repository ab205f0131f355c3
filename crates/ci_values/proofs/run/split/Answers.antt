use Rattle.ci_values.proofs.Runs.{split-front, split-behind}
use Rattle.ci_values.proofs.run.split.Goals as goal

pub returns-clause-front : goal.returns-clause-front
returns-clause-front c = split-front c.args.class c.args.bytes.now c.front_len-len.result c.front_len-len.ensures.value

pub returns-clause-behind : goal.returns-clause-behind
returns-clause-behind c = split-behind c.args.class c.args.bytes.now c.front_len-len.result c.front_len-len.ensures.value c.front_len-len.ensures.within
