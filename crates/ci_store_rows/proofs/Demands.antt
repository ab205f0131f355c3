-- The queries that load what jobs ask of runners.
use Rattle.ci_store.specs.Prelude.{Text, Row, column, Term, col, understood, Ghosts, Held, state, everything, equal, Gt, Has, Kept, demand_of, demand_at, Job, Demand}
use Rattle.ci_store_rows.specs.Prelude.{spec_text, spec_data, ReadsDemand, SELECT_DEMAND, SELECT_DEMANDS_ABOVE, LAST_INTEGER, the_schema, job, number, job_row, IsRegular, IsAt}
use Rattle.ci_store_rows.specs.Prelude.{ShowsRecords, listed, FindsNumber, demand_cells, IsDemandRow}
use Rattle.ci_store_rows.proofs.Words.{Binary, ◌≡◌, ◌∙◌, ◌==◌, ◌&&◌, ℕ, List, [], ◌∷◌, true, Option, Some, option_map, codes, refl, sym, ap, inl, inr, nat_lt, IsPlain, all_has}
use Rattle.ci_store_rows.proofs.Words.{read, MeansSelect, compares}
use Rattle.ci_store_rows.proofs.Records.{is, above, finds_number, finds_beyond}
use Rattle.ci_store_rows.proofs.Shows.{shows_columns, found_as, found_none}
use Rattle.ci_store_rows.proofs.Same.{number_of, text_of}

-- the columns that tell it, of those of a job, and their names
abbrev columns : List Term
columns = col 1 0 ∷ col 1 2 ∷ col 1 6 ∷ []

abbrev names : List (List ℕ)
names = codes "id" ∷ codes "pipeline" ∷ codes "spec" ∷ []

abbrev part : Row → Row
part row = column row 0 ∷ column row 1 ∷ column row 5 ∷ []

-- their values in the row of a job
abbrev demand_row : Job → Row
demand_row j = number j.id ∷ number j.pipeline ∷ Text (spec_text j.options) ∷ []

-- what they are read as is what the job asks
same_demand : (d : Demand) (j : Job) (text : List ℕ) → ReadsDemand text d → read (spec_text j.options) ≡ Some (spec_data j.options) → demand_cells d text ≡ demand_row j → d ≡ demand_of j
same_demand d j text reads back h =
    let spec : text ≡ spec_text j.options = λ i. text_of (h i) 2 in
    let asks = reads j.options (ap read spec ∙ back) in
    λ i. record { job = number_of (h i) 0; pipeline = number_of (h i) 1; tags = asks.0 i; resource_group = asks.1 i }

one_demand : (k : Kept) → IsRegular k → (d : Demand) (j : Job) → Has k.state.jobs j → IsDemandRow (demand_row j) d → d ≡ demand_of j
one_demand k o d j there same = same_demand d j same.0 same.2 (all_has _ k.state.jobs j o.specs there) (sym same.1)

means_select : MeansSelect the_schema job SELECT_DEMAND.now (is 0 0 ∷ []) columns [] names
unfolding understood everything
means_select = record { is = refl; unlisted = refl; plain = (refl, refl) }

pub plain_select : IsPlain (understood the_schema SELECT_DEMAND.now)
plain_select = means_select.plain

demand_found : {S : Type 0} (g : Ghosts S) (old new : Held S) (k : Kept) → IsAt g k old → (id : ℕ) (found : Option Demand) → ShowsRecords IsDemandRow g SELECT_DEMAND.now (number id ∷ []) old new (listed found) → found ≡ demand_at k.state id
demand_found g old new k at id found h =
    found_as demand_of IsDemandRow demand_row (λ j. j.id == id) k.state.jobs (one_demand k at.now.inside.regular) h.rows
    (shows_columns job_row 4 job refl SELECT_DEMAND.now (is 0 0 ∷ []) (number id ∷ []) (λ im. equal Binary (column im 0) (number id) && true) (λ r. refl) (λ j. j.id == id) (λ j. finds_number j.id id) k k.state.jobs refl h.rows
    columns names part (λ r. refl) means_select (state g old) (state g new) at.now h.shown)
    found h.read

means_select_above : MeansSelect the_schema job SELECT_DEMANDS_ABOVE.now (above 0 0 ∷ []) columns [] names
unfolding understood everything
means_select_above = record { is = refl; unlisted = refl; plain = (refl, refl) }

pub plain_select_above : IsPlain (understood the_schema SELECT_DEMANDS_ABOVE.now)
plain_select_above = means_select_above.plain

pub demand_named : {S : Type 0} (g : Ghosts S) (old new : Held S) (k : Kept) → IsAt g k old → (id : ℕ) (found : Option Demand) → FindsNumber IsDemandRow g SELECT_DEMAND.now SELECT_DEMANDS_ABOVE.now id old new found → found ≡ demand_at k.state id
demand_named g old new k at id found (inl h) = demand_found g old new k at id found h
demand_named g old new k at id found (inr h) =
    h.0
    ∙ sym (ap (option_map demand_of) (found_none (λ (j : Job). j.id) LAST_INTEGER id h.1 IsDemandRow demand_row k.state.jobs h.2.rows
    (shows_columns job_row 4 job refl SELECT_DEMANDS_ABOVE.now (above 0 0 ∷ []) (number LAST_INTEGER ∷ []) (λ im. compares Gt (column im 0) (number LAST_INTEGER) && true) (λ r. refl) (λ j. nat_lt LAST_INTEGER j.id) (λ j. finds_beyond LAST_INTEGER j.id) k k.state.jobs refl h.2.rows
    columns names part (λ r. refl) means_select_above (state g old) (state g new) at.now h.2.shown)
    h.2.read))
