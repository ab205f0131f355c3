-- Layers of variables, the highest first.
use Rattle.std.specs.Prelude.{ℕ, List, [], ◌∷◌, Option, Some, None, map}
use Rattle.std.specs.Borrow.{Bor}
use Rattle.ci_values.specs.Table.{meaning_of}
use Rattle.ci_values.specs.declared.layers.Layers.{Layers}

-- names with their values
abbrev pub Variables : Type 0
Variables = List (List ℕ × List ℕ)

abbrev pub or_else : {A : Type 0} → Option A → Option A → Option A
or_else (Some x) other = Some x
or_else None other = other

-- the value of a variable is that of the first layer which has it
abbrev pub value_in : List Variables → List ℕ → Option (List ℕ)
value_in [] name = None
value_in (layer ∷ layers) name = or_else (meaning_of layer name) (value_in layers name)

-- ---- layers of the code, without where they lie in memory

abbrev pub text_view : Bor (List ℕ) → List ℕ
text_view s = s.now

abbrev pub layer_view : List (Bor (List ℕ) × Bor (List ℕ)) → Variables
layer_view pairs = map (λ p. (p.0.now, p.1.now)) pairs

-- the pipeline's, the project's, the job's, the file's and the predefined ones
abbrev pub layers_view : Layers → List Variables
layers_view ls = layer_view ls.pipeline.now ∷ layer_view ls.project.now ∷ layer_view ls.job.now ∷ layer_view ls.file.now ∷ layer_view ls.predefined.now ∷ []
