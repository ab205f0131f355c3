-- The process mode of a resource group.
use Rattle.std.specs.Prelude.{ℕ, List, [], ◌∷◌, Option, Some, None, option_and_then, codes}
use Rattle.std.specs.List.{find}
use Rattle.std.specs.Str.{bytes_eq}
use Rattle.serde_json.specs.Data.{Data}
use Rattle.serde_json.specs.Find.{get}
use Rattle.ci_machine.specs.Prelude.{order_text}
use Rattle.ci_machine.specs.declared.records.GroupOrder.{GroupOrder}
use Rattle.ci_machine.specs.declared.records.GroupOrder.TheVariants.{OldestFirst, NewestReadyFirst}
use Rattle.ci_http_messages.specs.Json.{object_in, text_of}

-- the order whose mode has this text; the group is unordered where there is none
abbrev pub order_named : List ℕ → Option (Option GroupOrder)
order_named text = find (λ order. bytes_eq text (order_text order)) (None ∷ Some OldestFirst ∷ Some NewestReadyFirst ∷ [])

-- the process mode, by the member `process_mode`, which has to be there
abbrev pub mode_of : Option Data → Option (Option GroupOrder)
mode_of mode = option_and_then order_named (text_of mode)

-- the process mode in a body
abbrev pub mode_in : List ℕ → Option (Option GroupOrder)
mode_in body = option_and_then (λ object. mode_of (get (codes "process_mode") object)) (object_in body)
