-- The head of a request: its method, its target and its fields.
use Rattle.std.specs.Prelude.{◌≡◌, ℕ, List, [], map, take, Option, Some, None}
use Rattle.httparse.specs.Grammar.{RequestHead, ReadsRequest}
use Rattle.httparse.specs.Spans.{name_and_value, span_bytes, header_bytes}
use Rattle.httparse.specs.declared.spans.HeaderSpan.{HeaderSpan}
use Rattle.httparse.specs.declared.spans.RequestSpans.{RequestSpans}

-- What is read of a head: each field is a name and a value without the white space around it.
pub record Head : Type 0 where
  pub method : List ℕ
  pub target : List ℕ
  pub fields : List (List ℕ × List ℕ)

abbrev pub head_parts : RequestHead → Head
head_parts h = record { method = h.method; target = h.target; fields = map name_and_value h.fields }

-- the head that the bytes are as a whole by the grammar of requests, if they are one
abbrev pub IsHeadOf : List ℕ → Option Head → Type 0
IsHeadOf bytes None = (h : RequestHead) → ¬ (ReadsRequest bytes h [])
IsHeadOf bytes (Some head) = (h : RequestHead) × ReadsRequest bytes h [] × (head ≡ head_parts h)

-- the head that spans of the bytes name
abbrev pub head_at : List ℕ → List HeaderSpan → RequestSpans → Head
head_at bytes headers spans = record {
  method = span_bytes bytes spans.method;
  target = span_bytes bytes spans.path;
  fields = map (header_bytes bytes) (take spans.headers headers);
}
