use Rattle.std.proofs.Common.{◌≡◌, ◌-◌, ◌++◌}
use denote.Text.{Utf8}
use denote.Shadow.{shadow}
use Rattle.ci_yaml_lines.specs.Prelude.{places, Stand, items_texts, spans_of, places_spans, items_view, with_places, least_listed}
use Rattle.ci_yaml_lines.proofs.flow.read_places.Given as goal

abbrev pub invariant-places : goal.invariant-places
invariant-places l =
    shadow (Utf8 l.rest) × (with_places (items_view l.items.items) l.code (least_listed (places (l.n - l.i) l.rest)) ≡ least_listed (places l.fn.n l.fn.text)) × Stand l.source l.fn.text (items_texts l.items.items) l.rest
    × (spans_of (items_texts l.items.items) ++ places_spans l.fn.source (l.n - l.i) l.rest ≡ places_spans l.fn.source l.fn.n l.fn.text)
