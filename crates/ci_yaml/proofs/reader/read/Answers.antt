use Rattle.std.proofs.Common.{◌≡◌, map, Err, refl, ◌∙◌, ap, subst, arith}
use Rattle.ci_yaml.specs.Prelude.{Y1, YamlFault, too_long, Reads, texts_in, spans_of, Lines, HaveSpans}
use Rattle.ci_yaml.proofs.Verdicts.{text-all_faults}
use Rattle.std.specs.Str.Lines.{lines}
use Rattle.std.specs.Vec.{vec_items}
use Rattle.std.proofs.lemmas.Iterator.Splits.{YieldsList-from_lines}
use Rattle.std.proofs.lemmas.Iterator.Consumers.{map_from_collect}
use Rattle.ci_yaml.proofs.ReadTexts.{texts-short, text-tree, text-all, text-refused}
use Rattle.std.proofs.lemmas.Result.{IfOk-weaker, IfOk-at_ok}
use Rattle.ci_yaml.proofs.SpansWritten.{lines-written}
use Rattle.ci_yaml.proofs.reader.read.Goals as goal

pub tree_of-requires : goal.tree_of-requires
tree_of-requires c =
    let all : map (λ x. x.now) c.deref.result.now ≡ lines c.args.text.now =
    ap (λ xs. map (λ x. x.now) xs) c.deref.ensures.value
    ∙ IfOk-at_ok (λ w. map (λ x. x.now) (vec_items w) ≡ lines c.args.text.now) c.in_ok-lines.was
    (map_from_collect c.collect.result c.collect.ensures.ran (YieldsList-from_lines c.args.text.now c.lines.ensures.rest)) in
    record { short = texts-short c.args.text.now c.deref.result.now c.if-text-gt-MAX_FILE_BYTES.false all }

pub returns-then-text-gt-MAX_FILE_BYTES-clause-refused : goal.returns-then-text-gt-MAX_FILE_BYTES-clause-refused
returns-then-text-gt-MAX_FILE_BYTES-clause-refused c = λ at code f. text-all_faults c.args.text.now (Err (YamlFault.Fault Y1 1)) tt (too_long c.if-text-gt-MAX_FILE_BYTES.true refl refl) at code f

pub returns : goal.returns
returns c =
    let all : map (λ x. x.now) c.deref.result.now ≡ lines c.args.text.now =
    ap (λ xs. map (λ x. x.now) xs) c.deref.ensures.value
    ∙ IfOk-at_ok (λ w. map (λ x. x.now) (vec_items w) ≡ lines c.args.text.now) c.in_ok-lines.was
    (map_from_collect c.collect.result c.collect.ensures.ran (YieldsList-from_lines c.args.text.now c.lines.ensures.rest)) in
    let reads : Reads (lines c.args.text.now) c.tree_of.result = subst (λ ls. Reads ls c.tree_of.result) all c.tree_of.ensures.tree in
    let tree = text-tree c.args.text.now c.tree_of.result c.if-text-gt-MAX_FILE_BYTES.false reads in
    let fault = text-refused c.args.text.now c.tree_of.result c.if-text-gt-MAX_FILE_BYTES.false reads in
    record {
      tree = tree;
      all = text-all c.args.text.now c.tree_of.result reads;
      fault = fault;
      refused = text-all_faults c.args.text.now c.tree_of.result tree fault;
      spans = IfOk-weaker c.tree_of.result _ _ (λ t h. lines-written (lines c.args.text.now) (texts_in t) (subst (λ ls. Lines ls 0 ls (texts_in t)) all h)) c.tree_of.ensures.spans;
      exact = IfOk-weaker c.tree_of.result _ _ (λ t h. subst (λ ls. HaveSpans 0 ls (spans_of (texts_in t))) all h) c.tree_of.ensures.exact;
      too_long = λ long. absurd (omega arith);
    }
