use Rattle.std.proofs.Common.{◌∙◌, ap, sym, rules, string_bytes}
use Rattle.ci_yaml_lines.specs.Prelude.{head_is}
use Rattle.ci_yaml_lines.proofs.Quotes.{pair-turn, pair-open, after-quote, shorter-tail}
use Rattle.ci_yaml_lines.proofs.quoted.add_pairs.Goals as goal

pub pairs-preserved : goal.pairs-preserved
pairs-preserved c = (
  search rules,
  pair-turn (string_bytes c.pairs.words) (string_bytes c.push_str.new.self) (string_bytes c.push_str-in-pairs.new.self) c.in-Some.front.now c.tail.result.now c.pairs.rest.now c.in-Some.behind.now
      (ap (head_is 39) (sym c.as_bytes.ensures.value) ∙ sym c.pairs-test.ensures) c.tail.ensures c.in-Some.ensures.value c.in_ok-push_str.ensures.bytes c.in_ok-push_str-2.ensures.bytes
      ∙ c.pairs.invariant.1,
)

pub pairs-smaller : goal.pairs-smaller
pairs-smaller c = shorter-tail c.in-Some.behind.now c.tail.result.now c.pairs.rest.now c.tail.ensures c.in-Some.ensures.shorter

pub returns-in_default : goal.returns-in_default
returns-in_default c =
    pair-open (string_bytes c.pairs.words) c.tail.result.now c.pairs.rest.now (ap (head_is 39) (sym c.as_bytes.ensures.value) ∙ sym c.pairs-test.ensures) c.tail.ensures c.in_default.ensures.value
    ∙ c.pairs.invariant.1

pub returns : goal.returns
returns c =
    sym (after-quote (string_bytes c.pairs.words) c.pairs.rest.now (ap (head_is 39) (sym c.as_bytes.ensures.value) ∙ sym c.pairs-test.ensures)) ∙ c.pairs.invariant.1
