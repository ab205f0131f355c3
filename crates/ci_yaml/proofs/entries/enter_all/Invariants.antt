use Rattle.std.proofs.Common.{◌≡◌, ◌++◌, vec_len, map}
use Rattle.ci_yaml.specs.Prelude.{entry_view, state_view, run, state_texts, entries_texts}
use Rattle.ci_yaml.proofs.entries.enter_all.Given as goal

abbrev pub invariant-all : goal.invariant-all
invariant-all l = record {
  value : run (state_view l.progress) (map entry_view l.entries.items) ≡ run (state_view l.fn.progress) (map entry_view l.fn.entries.items);
  spans : state_texts l.progress ++ entries_texts l.entries.items ≡ state_texts l.fn.progress ++ entries_texts l.fn.entries.items;
}

abbrev pub decreases-all : goal.decreases-all
decreases-all l = vec_len l.entries
