-- What is read of JSON.
use Rattle.std.specs.Prelude.{◌≡◌, ℕ, Bool, false, List, Some}
use Rattle.std.specs.Str.{bytes_eq}
use Rattle.serde_json.specs.Data.{Data, string}
use Rattle.serde_json.specs.Read.{read}
use Rattle.ci_store.specs.Prelude.{JobOptions, Demand}
use Rattle.ci_store_rows.specs.JsonText.{list_data, spec_data}

-- the text can be read as the list of these texts alone
abbrev pub ReadsList : List ℕ → List (List ℕ) → Type 0
ReadsList text texts = (others : List (List ℕ)) → read text ≡ Some (list_data others) → texts ≡ others

-- the text can be read as these options alone
abbrev pub ReadsSpec : List ℕ → JobOptions → Type 0
ReadsSpec text spec = (others : JobOptions) → read text ≡ Some (spec_data others) → spec ≡ others

-- the text can be read only as options that ask this of a runner
abbrev pub ReadsDemand : List ℕ → Demand → Type 0
ReadsDemand text demand = (others : JobOptions) → read text ≡ Some (spec_data others) → (demand.tags ≡ others.tags) × (demand.resource_group ≡ others.resource_group)

-- the value is this text
abbrev pub is_text : List ℕ → Data → Bool
is_text text (string other) = bytes_eq other text
is_text text _ = false
