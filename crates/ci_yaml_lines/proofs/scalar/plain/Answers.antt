use Rattle.ci_yaml_lines.proofs.Views.{view-Null, view-Bool, view-Int}
use Rattle.ci_yaml_lines.proofs.scalar.plain.Goals as goal

pub returns-then-eq-clause-value : goal.returns-then-eq-clause-value
returns-then-eq-clause-value c = simp (view-Bool, ← c.if-eq.ensures)

pub returns-then-eq-2-clause-value : goal.returns-then-eq-2-clause-value
returns-then-eq-2-clause-value c = simp (view-Bool, ← c.if-eq.ensures, ← c.if-eq-2.ensures)

pub returns-then-is_null-clause-value : goal.returns-then-is_null-clause-value
returns-then-is_null-clause-value c = simp (view-Null, ← c.if-eq.ensures, ← c.if-eq-2.ensures, ← c.if-is_null.ensures)

pub returns-then-eq-3-clause-value : goal.returns-then-eq-3-clause-value
returns-then-eq-3-clause-value c = simp (view-Int, ← c.if-eq.ensures, ← c.if-eq-2.ensures, ← c.if-is_null.ensures, ← c.if-eq-3.ensures)

pub returns-clause-value : goal.returns-clause-value
returns-clause-value c = simp (← c.if-eq.ensures, ← c.if-eq-2.ensures, ← c.if-is_null.ensures, ← c.if-eq-3.ensures) c.number_or_text.ensures.value
