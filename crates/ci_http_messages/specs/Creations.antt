-- A pipeline that is to be made.
use Rattle.std.specs.Prelude.{ℕ, List, [], ◌∷◌, if◌then◌else◌, Option, Some, None, option_map, option_and_then, codes}
use Rattle.std.specs.List.{find}
use Rattle.std.specs.Str.{bytes_eq}
use Rattle.serde_json.specs.Data.{Data, Items, no_items, item}
use Rattle.serde_json.specs.Find.{get, as_bool, as_str, as_array}
use Rattle.ci_machine.specs.Prelude.{is_name, source_text}
use Rattle.ci_machine.specs.declared.records.RefKind.{RefKind}
use Rattle.ci_machine.specs.declared.records.RefKind.TheVariants.{Branch, Tag}
use Rattle.ci_machine.specs.declared.records.Source.{Source}
use Rattle.ci_machine.specs.declared.records.Source.TheVariants.{Push, Web, Schedule, Api, Trigger}
use Rattle.ci_machine.specs.declared.request.NewPipeline.{NewPipeline}
use Rattle.ci_machine.specs.declared.request.PipelineVariable.{PipelineVariable}
use Rattle.ci_http_messages.specs.Json.{object_in, text_of}

abbrev pub only_name : List ℕ → Option (List ℕ)
only_name text = if is_name text then Some text else None

-- the branch or the tag that the pipeline runs for, by the member `ref`: a name
abbrev pub ref_of : Option Data → Option (List ℕ)
ref_of ref = option_and_then only_name (text_of ref)

-- whether that is a tag, by the member `tag`; it is a branch where the member is missing
abbrev pub kind_of : Option Data → Option RefKind
kind_of None = Some Branch
kind_of (Some value) = option_map (λ tag. if tag then Tag else Branch) (as_bool value)

-- the source whose text this is
abbrev pub source_named : List ℕ → Option Source
source_named text = find (λ source. bytes_eq text (source_text source)) (Push ∷ Web ∷ Schedule ∷ Api ∷ Trigger ∷ [])

-- what made the pipeline, by the member `source`: this interface, where the member is missing
abbrev pub source_of : Option Data → Option Source
source_of None = Some Api
source_of (Some value) = option_and_then source_named (as_str value)

-- a variable: an object with the members `key` and `value`
abbrev pub variable_of : Data → Option PipelineVariable
variable_of entry =
    option_and_then (λ key. option_map (λ value. record { key = key; value = value })
    (text_of (get (codes "value") entry))) (text_of (get (codes "key") entry))

-- the variables of a list, each of which has to be one
abbrev pub each_variable : Items → Option (List PipelineVariable)
each_variable no_items = Some []
each_variable (item entry entries) =
    option_and_then (λ variable. option_map (λ variables. variable ∷ variables) (each_variable entries)) (variable_of entry)

-- the variables of the pipeline, by the member `variables`; none, where it is missing
abbrev pub variables_of : Option Data → Option (List PipelineVariable)
variables_of None = Some []
variables_of (Some value) = option_and_then each_variable (as_array value)

-- a pipeline that is to be made, by the members `ref`, `tag`, `source` and `variables`
abbrev pub creation_of : ℕ → List ℕ → Option Data → Option Data → Option Data → Option Data → Option NewPipeline
creation_of project token ref tag source variables =
    option_and_then (λ git_ref. option_and_then (λ kind. option_and_then (λ origin. option_map (λ listed.
    record { project = project; token = token; git_ref = git_ref; kind = kind; source = origin; variables = listed })
    (variables_of variables)) (source_of source)) (kind_of tag)) (ref_of ref)

-- the pipeline that a body asks to make
abbrev pub creation_in : ℕ → List ℕ → List ℕ → Option NewPipeline
creation_in project token body =
    option_and_then (λ object. creation_of project token (get (codes "ref") object) (get (codes "tag") object)
    (get (codes "source") object) (get (codes "variables") object)) (object_in body)
