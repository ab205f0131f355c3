-- Pipelines for worked examples.
use Rattle.std.specs.Prelude.{ℕ, zero, suc, ◌+◌, ◌-◌, true, false, List, [], ◌∷◌, ◌++◌, map, Some, None, slice_index_or}
use Rattle.ci_values.specs.declared.attempts.AttemptState.{AttemptState}
use Rattle.ci_values.specs.declared.attempts.Cause.{Cause}
use Rattle.ci_values.specs.declared.when.When.{When}
use Rattle.ci_values.specs.declared.when.AllowFailure.{AllowFailure}
use Rattle.ci_graph.specs.JobGraph.{JobGraph, no_causes}
use Rattle.ci_graph.specs.declared.part.Part.{Part}
use Rattle.ci_board.specs.declared.facts.Facts.{Facts}
use Rattle.ci_board.specs.declared.facts.Status.{Status}
use Rattle.ci_board.specs.Rows.{no_facts, degrees, is_touched}
use Rattle.ci_board.specs.Statuses.{IsAssignment}

-- a job that runs at this time; it gives needs
abbrev pub job : When → Part
job w = record { «when» = w; allow_failure = AllowFailure.No; retry = record { max = 0; causes = no_causes }; gives_needs = true }

abbrev pub behind : Part → Part
behind p = record p { gives_needs = false }

-- ---- pipelines, by the parts of their jobs and by who waits for whom

-- `build`; `unit`, of the stage behind
abbrev pub two_stages : JobGraph
two_stages = record {
  parts = behind (job When.OnSuccess) ∷ behind (job When.OnSuccess) ∷ [];
  predecessors = [] ∷ (0 ∷ []) ∷ [];
  successors = (1 ∷ []) ∷ [] ∷ [];
  order = 0 ∷ 1 ∷ [];
  meter = 0;
}

-- `slow`; `pack`, of the stage behind; `lint`, which needs nothing
abbrev pub no_needs : JobGraph
no_needs = record {
  parts = behind (job When.OnSuccess) ∷ behind (job When.OnSuccess) ∷ job When.OnSuccess ∷ [];
  predecessors = [] ∷ (0 ∷ []) ∷ [] ∷ [];
  successors = (1 ∷ []) ∷ [] ∷ [] ∷ [];
  order = 0 ∷ 2 ∷ 1 ∷ [];
  meter = 0;
}

-- `a`; `f`, `w` and `s`, which need it; `g`, which needs `s`
abbrev pub failing : JobGraph
failing = record {
  parts = behind (job When.OnSuccess) ∷ job When.OnFailure ∷ job When.Always ∷ job When.OnSuccess ∷ job When.OnSuccess ∷ [];
  predecessors = [] ∷ (0 ∷ []) ∷ (0 ∷ []) ∷ (0 ∷ []) ∷ (3 ∷ []) ∷ [];
  successors = (1 ∷ 2 ∷ 3 ∷ []) ∷ [] ∷ [] ∷ (4 ∷ []) ∷ [] ∷ [];
  order = 0 ∷ 1 ∷ 2 ∷ 3 ∷ 4 ∷ [];
  meter = 0;
}

-- ---- facts

abbrev pub live : Facts
live = record { last = Some AttemptState.Live; attempts = 1; cancelled = false; played = false }

abbrev pub succeeded : Facts
succeeded = record { last = Some (AttemptState.Succeeded None); attempts = 1; cancelled = false; played = false }

abbrev pub failed : Facts
failed = record { last = Some (AttemptState.Failed Cause.ScriptFailure None); attempts = 1; cancelled = false; played = false }

-- a user's retry sets the attempts aside
abbrev pub retried : Facts → Facts
retried f = record f { attempts = 0 }

-- ---- what comes of them

-- these are the statuses of the jobs, in order
abbrev pub AreStatuses : JobGraph → List Facts → List Status → Type 0
AreStatuses g facts given = IsAssignment g facts (λ j. slice_index_or given j Status.Created)

-- how many edges may be looked at where this job's facts change and these rows differ afterwards
abbrev pub edges : JobGraph → ℕ → List ℕ → ℕ
edges g j answer = degrees g (is_touched (record { position = j; facts = no_facts } ∷ []) answer) g.order

-- the same where no job's facts change
abbrev pub edges_of_none : JobGraph → ℕ
edges_of_none g = degrees g (is_touched [] []) g.order

-- ---- chains

-- so many numbers, from k on
abbrev pub from : ℕ → ℕ → List ℕ
from k zero = []
from k (suc n) = k ∷ from (k + 1) n

-- so many jobs, each behind the one before it
abbrev pub chain : ℕ → JobGraph
chain n = record {
  parts = map (λ _. behind (job When.OnSuccess)) (from 0 n);
  predecessors = [] ∷ map (λ (j : ℕ). j ∷ []) (from 0 (n - 1));
  successors = map (λ (j : ℕ). (j + 1) ∷ []) (from 0 (n - 1)) ++ [] ∷ [];
  order = from 0 n;
  meter = 0;
}
