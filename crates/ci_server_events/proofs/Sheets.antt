-- The records of a pipeline as one sheet, where an attempt of one of its jobs ends.
use Rattle.std.proofs.Common.{◌≡◌, Some, None, sym, ap, subst, ◌∙◌}
use Rattle.ci_machine.specs.Prelude.{JobGraph}
use Rattle.ci_machine_steps.specs.Prelude.{Kept}
use Rattle.ci_server_lookups.specs.Prelude.{IsGraphOf, AreOf, IsRight}
use Rattle.ci_server_lookups.specs.declared.records.Records.{Records}
use Rattle.ci_server_lookups.specs.declared.sheet.Sheet.{Sheet}

-- its records are those of the pipeline
abbrev pub records_in : Sheet → Records
records_in m = record { jobs = m.jobs; needs = m.needs; attempts = m.attempts; rows = m.rows }

pub its_records : (k : Kept) (m : Sheet) → IsRight m k → AreOf k m.pipeline (records_in m)
its_records k m right = record {
  first = m.first;
  last = m.last;
  inside = right.inside;
  are_jobs = right.jobs;
  are_needs = right.needs;
  are_attempts = right.attempts;
  are_rows = right.rows;
}

-- a graph serves as long as its parts and predecessors are the same
pub graph_stays : (g h : JobGraph) (m : Sheet) → h ≡ record g { meter = 0 } → IsGraphOf g m.jobs.items m.needs.items → IsGraphOf h m.jobs.items m.needs.items
graph_stays g h m same of = record {
  parts = ap (λ (x : JobGraph). x.parts) same ∙ of.parts;
  predecessors = λ up. ap (λ (x : JobGraph). x.predecessors) same ∙ of.predecessors up;
}

-- with the graph of its jobs it is right still
pub with_graph : (k : Kept) (m t : Sheet) (g : JobGraph) → t ≡ record m { graph = None } → IsGraphOf g m.jobs.items m.needs.items → IsRight m k → IsRight (record t { graph = Some g }) k
with_graph k m t g same of right =
    subst (λ (n : Sheet). IsRight (record n { graph = Some g }) k) (sym same)
    (record { jobs = right.jobs; inside = right.inside; needs = right.needs; attempts = right.attempts; rows = right.rows; graph = of })
