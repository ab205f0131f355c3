use Rattle.std.proofs.Common.{◌∙◌, ap, sym, refl}
use Rattle.ci_yaml.specs.Prelude.{key, bytes_of, pairs_view, value_view, has_name}
use Rattle.ci_yaml.proofs.Steps.{entry_at, pair-joins, pair-repeats}
use Rattle.ci_yaml.proofs.SpansFrames.{pair-texts}
use Rattle.ci_yaml.proofs.members.join_pair.Goals as goal

pub returns-in_default-clause-value : goal.returns-in_default-clause-value
returns-in_default-clause-value c = λ g. c.in_default.ensures.other refl c.args.misplaced (value_view c.args.value) (bytes_of c.args.name) (entry_at c.args.column (key (bytes_of c.args.name)) g) refl

pub returns-then-has_key-clause-value : goal.returns-then-has_key-clause-value
returns-then-has_key-clause-value c =
    λ g. pair-repeats c.args.misplaced c.args.frames.now.items c.pop_pairs.new.frames.items c.in-Some.pairs c.in_ok-pairs.pairs c.in-Some.last c.args.name c.args.column
    (value_view c.args.value) g
    c.in-Some.ensures.map c.in_ok-pairs.ensures.value (ap (λ k. has_name k (pairs_view c.in_ok-pairs.pairs.pairs.items)) (sym c.as_str.ensures) ∙ sym c.has_key.ensures
    ∙ c.if-has_key.true)

pub returns-clause-value : goal.returns-clause-value
returns-clause-value c =
    λ g. sym (pair-joins c.args.misplaced c.args.frames.now.items c.pop_pairs.new.frames.items c.push.new.self.items c.in-Some.pairs c.in_ok-pairs.pairs
    c.in-Some.last c.args.name c.args.column (value_view c.args.value) g
    c.in-Some.ensures.map c.in_ok-pairs.ensures.value (ap (λ k. has_name k (pairs_view c.in_ok-pairs.pairs.pairs.items)) (sym c.as_str.ensures) ∙ sym c.has_key.ensures
    ∙ c.if-has_key.false) c.in_ok-push.ensures.items)

pub returns-clause-spans : goal.returns-clause-spans
returns-clause-spans c =
    pair-texts c.args.frames.now.items c.pop_pairs.new.frames.items c.push.new.self.items c.in-Some.pairs c.in_ok-pairs.pairs c.in-Some.last c.args.name c.args.column c.args.value
    c.in-Some.ensures.map c.in_ok-push.ensures.items c.in_ok-pairs.ensures.spans
