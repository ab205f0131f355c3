-- The words of this crate and of those below it, in one place: proofs and the crates above name them from here.
pub use Rattle.ci_http_messages.specs.Answers.{body_of, map_key, wanted}
pub use Rattle.ci_http_messages.specs.Blanks.{OpensWhole}
pub use Rattle.ci_http_messages.specs.BodyLength.{body_length, length_after, wants_length}
pub use Rattle.ci_http_messages.specs.Creations.{each_variable}
pub use Rattle.ci_http_messages.specs.Dues.{IsWhole}
pub use Rattle.ci_http_messages.specs.Fields.{Shows, is_named, values_of}
pub use Rattle.ci_http_messages.specs.Fits.{after, ahead, all_open, all_tidy, first_fit, fits, goes_on, opens, sorted, tidy, tokens}
pub use Rattle.ci_http_messages.specs.Head.{Head, IsHeadOf, head_at, head_parts}
pub use Rattle.ci_http_messages.specs.Laws.{ascends}
pub use Rattle.ci_http_messages.specs.Methods.{is_text, method_text}
pub use Rattle.ci_http_messages.specs.Opening.{IsOpening, Opening, empty_line, head_len, is_line_feed, opened, opening_at, opening_of, short, too_large}
pub use Rattle.ci_http_messages.specs.Patterns.{Piece, first_of, fixed, pattern_in, pieces_fit, slot, slot_names, slot_texts, text_at, text_in, text_of}
unfoldable pub use Rattle.ci_http_messages.specs.Patterns.{patterns}
pub use Rattle.ci_http_messages.specs.Places.{LeadsTo, filled, loose, number_at, number_named, numbers_in, routes_by, routes_with, rows_at, rows_of}
pub use Rattle.ci_http_messages.specs.Ranges.{place_in}
pub use Rattle.ci_http_messages.specs.Reading.{AwaitsBody, IsReading, IsReadingAt, IsReadingCode, Message, Reading, Refuses, ended, message, reading_after, reading_by, refused}
pub use Rattle.ci_http_messages.specs.Reading.{request}
pub use Rattle.ci_http_messages.specs.Refusals.{IsWhyNot}
pub use Rattle.ci_http_messages.specs.ReplyText.{IsResponse, allow_line, allow_text, crlf, job_status_line, length_line, length_values, listed, number_of, range_line, reason_of}
pub use Rattle.ci_http_messages.specs.ReplyText.{reply_text, type_line, type_text}
unfoldable pub use Rattle.ci_http_messages.specs.ReplyText.{status_line}
pub use Rattle.ci_http_messages.specs.RequestBytes.{AsksMemory, AsksMemoryBy, asked_at, is_health, methods_of, request_as, request_by, request_in}
pub use Rattle.ci_http_messages.specs.Routes.{Asked, Part, Route, Takes, Wanted, asked_by, asked_in, asked_of, asks, no_route, number, other_methods, path_text, reads, routes_at}
pub use Rattle.ci_http_messages.specs.Routes.{routes_of, text, with_route, word}
unfoldable pub use Rattle.ci_http_messages.specs.Routes.{routes}
pub use Rattle.ci_http_messages.specs.Segments.{onto, segments}
pub use Rattle.ci_http_messages.specs.Sources.{Fails, TakesFront, Tells}
pub use Rattle.ci_http_messages.specs.Table.{TakesPaths, paths, with_paths, written}
unfoldable pub use Rattle.ci_http_messages.specs.Table.{table}
pub use Rattle.ci_http_messages.specs.Targets.{path_of}
pub use Rattle.ci_http_messages.specs.declared.fault.HttpFault.TheVariants.{Ended, Memory, Refused}
pub use Rattle.ci_http_messages.specs.declared.fields.Found.{Found}
pub use Rattle.ci_http_messages.specs.declared.fields.Found.TheVariants.{Absent, Once, Twice}
pub use Rattle.ci_http_messages.specs.declared.limits.TheConstants.{MAX_BODY_BYTES, MAX_HEAD_BYTES, MAX_HEAD_LINES}
pub use Rattle.ci_http_messages.specs.declared.route.Demand.{Demand}
pub use Rattle.ci_http_messages.specs.declared.routing.operation.Operation.{Operation}
pub use Rattle.ci_http_messages.specs.declared.routing.place.Numbers.{Numbers}
pub use Rattle.ci_http_messages.specs.declared.routing.place.Place.{Place}
pub use Rattle.ci_http_messages.specs.declared.routing.table.Pattern.{Pattern}
