use Rattle.std.proofs.Common.{◌∙◌, sym, rules}
use Rattle.ci_yaml.proofs.BlockLines.{kept-front, kept-whole}
use Rattle.ci_yaml.proofs.block.kept_len.Goals as goal

pub returns-then-not-is_spaces : goal.returns-then-not-is_spaces
returns-then-not-is_spaces c = record {
  within = c.scan.invariant.0;
  value = kept-whole c.scan.rest.now _ c.as_bytes.result.now c.in-len1-up.len_at_least c.as_bytes.ensures.value (sym c.if-not-is_spaces.ensures) ∙ c.scan.invariant.1;
}

pub scan-preserved : goal.scan-preserved
scan-preserved c = (
  search rules,
  kept-front c.scan.rest.now _ c.as_bytes.result.now c.in-len1-up.len_at_least c.as_bytes.ensures.value (sym c.if-not-is_spaces.ensures) ∙ c.scan.invariant.1,
)
