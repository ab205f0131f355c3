use Rattle.std.proofs.Common.{◌≡◌, ◌+◌, ◌<◌, ℕ, Bool, true, false, List, length, drop, get_or, map, Option, Some, sym, ap, ◌∙◌, if◌then◌else◌}
use Rattle.std.specs.Borrow.{Bor}
use Rattle.std.specs.Str.{bytes_eq}
use Rattle.std.proofs.lemmas.List.{at_drop_more}
use Rattle.ci_expr.specs.Prelude.{value_of}
use Rattle.ci_expr.proofs.formula.value_of.Goals as goal

abbrev Pair : Type 0
Pair = Bor (List ℕ) × Bor (List ℕ)

abbrev value_in : List Pair → List ℕ → Option (List ℕ)
value_in ps name = value_of (map (λ p. (p.0.now, p.1.now)) ps) name

further : (ps : List Pair) (name : List ℕ) (d : Pair) (b : Bool) {i : ℕ} {all : Option (List ℕ)} → i < length ps → value_in (drop i ps) name ≡ all → b ≡ bytes_eq (get_or ps i d).0.now name
    → (if b then Some (get_or ps i d).1.now else value_in (drop (i + 1) ps) name) ≡ all
further ps name d b {i = i} lt was e =
    ap (λ t. if t then Some (get_or ps i d).1.now else value_in (drop (i + 1) ps) name) e ∙ sym (at_drop_more (λ qs. value_in qs name) ps i d lt) ∙ was

pub loop-pair-preserved : goal.loop-pair-preserved
loop-pair-preserved c = further c.args.env.now.pairs.now c.args.name.now _ false c.loop-pair-test.true c.loop-pair.invariant (sym c.if-eq.false ∙ c.eq.ensures)

pub returns-then-eq : goal.returns-then-eq
returns-then-eq c = further c.args.env.now.pairs.now c.args.name.now _ true c.loop-pair-test.true c.loop-pair.invariant (sym c.if-eq.true ∙ c.eq.ensures)
