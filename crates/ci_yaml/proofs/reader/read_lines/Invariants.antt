use Rattle.std.proofs.Common.{◌≤◌, ◌-◌, length, take}
use Rattle.ci_yaml.specs.Prelude.{state_view, texts_of, HasRead, AreShort, state_texts, Lines, spans_of, GoOn}
use Rattle.ci_yaml.proofs.reader.read_lines.Given as goal

abbrev pub invariant-lines : goal.invariant-lines
invariant-lines l = record {
  within : l.at ≤ length l.lines;
  short : AreShort (texts_of l.lines);
  read : HasRead (texts_of l.lines) l.at (state_view l.progress);
  texts : Lines (texts_of l.lines) 0 (take l.at (texts_of l.lines)) (state_texts l.progress);
  exact : GoOn (texts_of l.lines) l.at (spans_of (state_texts l.progress));
}

abbrev pub decreases-lines : goal.decreases-lines
decreases-lines l = length l.lines - l.at
