-- The facts and the rows of jobs of which none was tried.
use Rattle.std.proofs.Common.{◌≡◌, ℕ, List, length, replicate, map, ap, ◌∙◌}
use Rattle.std.proofs.lemmas.List.{length-map, length-replicate}
use Rattle.ci_machine_steps.specs.Prelude.{Facts, BoardRow, Row, no_facts}

pub first_facts : {facts : List Facts} {n m : ℕ} → facts ≡ replicate n no_facts → n ≡ m → facts ≡ replicate m no_facts
first_facts is count = is ∙ ap (λ (n : ℕ). replicate n no_facts) count

pub as_many_facts : {facts : List Facts} {n m : ℕ} → facts ≡ replicate n no_facts → n ≡ m → length facts ≡ m
as_many_facts {m = m} is count = ap length (first_facts is count) ∙ length-replicate m no_facts

pub as_many_rows : {rows : List Row} {m : ℕ} (made : List BoardRow) → rows ≡ map (λ r. r.row) made → length made ≡ m → length rows ≡ m
as_many_rows made is count = ap length is ∙ (length-map made (λ r. r.row) ∙ count)
