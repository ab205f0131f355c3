-- Worked examples that are computed: what unfolds for them, and boards, whose rows are right if they come out of themselves.
use Rattle.ci_machine_laws.proofs.Prelude.{◌≡◌, ℕ, ◌<◌, ◌==◌, List, [], ◌∷◌, length, map, count_by, sym, ap, subst, ◌∙◌, inl, inr, arith, eqb-true, refl, range_with_len}
use Rattle.ci_machine_laws.proofs.Prelude.{length-map, JobGraph, part_at, row_at, Has, has_filter}
use Rattle.std.proofs.lemmas.List.FromFn.{get_or-map-range_with_len}
use Rattle.ci_machine_steps.specs.Prelude.{Facts, Row, Effect, is_open, is_fail, is_bar, status_of_effects, facts_at, statuses, no_row, effects_of, Job, BoardRow, State, jobs_of}
use Rattle.ci_machine_steps.specs.Prelude.{graph_of, facts_of, rows_of, AreBoard}
unfoldable pub use Rattle.std.specs.Fmt.{digits}
unfoldable pub use Rattle.serde_json.proofs.OnLiterals.{serde_json_on_literals}
unfoldable pub use Rattle.hex.proofs.OnLiterals.{hex_on_literals}
unfoldable pub use Rattle.ci_machine_steps.specs.Prelude.{day_at, stamp_text}

first_of_some : {A : Type 0} (xs : List A) → 0 < length xs → (x : A) × Has x xs
first_of_some [] l = absurd (omega arith)
first_of_some (x ∷ xs) l = (x, inl refl)

equal_at : {A B : Type 0} (f g : A → B) (x : A) (xs : List A) → map f xs ≡ map g xs → Has x xs → f x ≡ g x
equal_at f g x [] e k = absurd k
equal_at f g x (y ∷ ys) e (inl same) = let first : f y ≡ g y = cc in ap f same ∙ first ∙ ap g (sym same)
equal_at f g x (y ∷ ys) e (inr k) = equal_at f g x ys (cc) k

-- a job's row, as it comes out of the statuses of these rows
abbrev row_again : JobGraph → List Facts → List Row → ℕ → Row
row_again g facts rows j =
    let effects : List Effect = effects_of g facts (statuses rows) j in
    record { status = status_of_effects (part_at g j) (facts_at facts j) effects; opens = count_by is_open effects; failed = count_by is_fail effects; barred = count_by is_bar effects }

-- the rows of a pipeline's jobs, as they come out of those of the board
abbrev pub rows_again : State → List BoardRow → ℕ → List Row
rows_again s board p = map (row_again (graph_of s p) (facts_of s p) (rows_of s board p)) (range_with_len 0 (length (graph_of s p).parts))

-- a board is right if each pipeline's rows come out as they stand there
pub computed : (s : State) (board : List BoardRow) → map (λ r. r.job) board ≡ map (λ j. j.id) s.jobs → map (λ j. rows_again s board j.pipeline) s.jobs ≡ map (λ j. rows_of s board j.pipeline) s.jobs → AreBoard s board
computed s board keys same = record {
  keys = keys;
  each = λ p. record {
    is = λ i l. ap (λ (r : Row). r.status) (comes_out p i l);
    each = λ i l. let e = comes_out p i l in λ t. record { status = statuses (rows_of s board p) i; opens = (e t).opens; failed = (e t).failed; barred = (e t).barred };
  };
} where
  comes_out : (p i : ℕ) → i < length (graph_of s p).parts → row_at (rows_of s board p) i ≡ row_again (graph_of s p) (facts_of s p) (rows_of s board p) i
  comes_out p i l =
      let long = length-map (jobs_of s p) (λ (j : Job). j.options.part) in
      let first = first_of_some (jobs_of s p) (omega arith) in
      let of = has_filter (λ (j : Job). j.pipeline == p) first.0 s.jobs first.1 in
      let rows : rows_again s board p ≡ rows_of s board p
      = subst (λ n. rows_again s board n ≡ rows_of s board n) (eqb-true first.0.pipeline p of.1) (equal_at (λ (j : Job). rows_again s board j.pipeline) (λ (j : Job). rows_of s board j.pipeline) first.0 s.jobs same of.0) in
      sym (ap (λ (rs : List Row). row_at rs i) rows) ∙ get_or-map-range_with_len (row_again (graph_of s p) (facts_of s p) (rows_of s board p)) 0 (length (graph_of s p).parts) i i no_row l (omega arith)
