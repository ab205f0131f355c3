-- The graph of a pipeline's jobs, as contracts see it.
use Rattle.std.specs.Prelude.{◌≡◌, ℕ, ◌<◌, ◌≤◌, ◌^◌, false, List, length, slice_index_or}
use Rattle.ci_graph.specs.Lists.{list_at, number_at, times, once, distinct, IsOrder}
use Rattle.ci_graph.specs.Pairs.{HasCycle, firsts_of, has_pair}
use Rattle.ci_graph.specs.declared.part.Part.{Part}
use Rattle.ci_graph.specs.declared.part.GraphFault.{GraphFault}
use Rattle.ci_values.specs.declared.when.When.{When}
use Rattle.ci_values.specs.declared.when.Causes.{Causes}
use Rattle.ci_values.specs.declared.when.AllowFailure.{AllowFailure}

-- parts, predecessors and successors by position; an order; and how often an edge was handed out
pub record JobGraph : Type 0 where
  pub parts : List Part
  pub predecessors : List (List ℕ)
  pub successors : List (List ℕ)
  pub order : List ℕ
  pub meter : ℕ

abbrev pub no_causes : Causes
no_causes = record {
  unknown_failure = false;
  script_failure = false;
  api_failure = false;
  stuck_or_timeout_failure = false;
  runner_system_failure = false;
  job_execution_timeout = false;
}

abbrev pub no_part : Part
no_part = record { «when» = When.OnSuccess; allow_failure = AllowFailure.No; retry = record { max = 0; causes = no_causes }; gives_needs = false }

abbrev pub part_of : List Part → ℕ → Part
part_of parts j = slice_index_or parts j no_part

abbrev pub part_at : JobGraph → ℕ → Part
part_at g j = part_of g.parts j

abbrev pub predecessors_of : JobGraph → ℕ → List ℕ
predecessors_of g j = list_at g.predecessors j

abbrev pub successors_of : JobGraph → ℕ → List ℕ
successors_of g j = list_at g.successors j

-- a job's predecessors are the distinct first halves of its pairs; it stands among another's successors once exactly where the pair is; and the
-- order has each job once, behind its predecessors
pub record HasPairs (g : JobGraph) (pairs : List (ℕ × ℕ)) : Type 0 where
  pub predecessors : (j : ℕ) → j < length g.parts → predecessors_of g j ≡ distinct (firsts_of pairs j)
  pub successors : (i j : ℕ) → i < length g.parts → times j (successors_of g i) ≡ once (has_pair pairs i j)
  pub ordered : IsOrder (length g.parts) g.predecessors g.order

-- what a fault says of the pairs
abbrev pub IsFaultOf : List (ℕ × ℕ) → GraphFault → Type 0
IsFaultOf pairs GraphFault.G3 = HasCycle pairs
IsFaultOf pairs GraphFault.Memory = Unit {0}

-- each neighbour stands once; successors mirror predecessors; and the order is one
pub record IsJobGraph (g : JobGraph) : Type 0 where
  pub few : length g.parts < 2 ^ 64
  pub predecessors_long : length g.predecessors ≡ length g.parts
  pub successors_long : length g.successors ≡ length g.parts
  pub each_once : (i j : ℕ) → j < length g.parts → times i (predecessors_of g j) ≤ 1
  pub mirror : (i j : ℕ) → i < length g.parts → j < length g.parts → times j (predecessors_of g i) ≡ times i (successors_of g j)
  pub pred_inside : (j k : ℕ) → j < length g.parts → k < length (predecessors_of g j) → number_at (predecessors_of g j) k < length g.parts
  pub inside : (j k : ℕ) → j < length g.parts → k < length (successors_of g j) → number_at (successors_of g j) k < length g.parts
  pub small : (j : ℕ) → j < length g.parts → length (predecessors_of g j) < 2 ^ 64
  pub ordered : IsOrder (length g.parts) g.predecessors g.order
