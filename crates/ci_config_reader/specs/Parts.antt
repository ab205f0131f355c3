-- What the entries of a map say that were read, without where it lies in memory.
use Rattle.std.specs.Prelude.{option_map}
use Rattle.ci_config.specs.Prelude.{text_view, FileSaid, NeedSaid, RetrySaid, texts_view, variables_view, jobs_view}
use Rattle.ci_config_reader.specs.declared.retry.RetryParts.{RetryParts}
use Rattle.ci_config_reader.specs.declared.need.NeedParts.{NeedParts}
use Rattle.ci_config_reader.specs.declared.file.FileParts.{FileParts}

abbrev pub retry_parts_view : RetryParts → RetrySaid
retry_parts_view p = record { max = p.max; causes = p.causes }

abbrev pub need_parts_view : NeedParts → NeedSaid
need_parts_view p = record { job = option_map text_view p.job; optional = p.optional }

abbrev pub file_parts_view : FileParts → FileSaid
file_parts_view p = record { stages = option_map texts_view p.stages; variables = variables_view p.variables; jobs = jobs_view p.jobs }
