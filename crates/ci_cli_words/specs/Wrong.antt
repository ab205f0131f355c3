-- What is wrong with the values of a command that ask for nothing.
use Rattle.std.specs.Prelude.{◌≡◌, ◌||◌, ℕ, Bool, true, false, List, [], None, codes}
use Rattle.std.specs.Str.{bytes_eq}
use Rattle.clap.specs.Walk.{Row, Text}
use Rattle.ci_machine.specs.Prelude.{is_name}
use Rattle.ci_cli_words.specs.Dates.{IsDateAt}
use Rattle.ci_cli_words.specs.Words.{HasWord, is_variable, log_named, number_of, parted, source_named, value_of}
use Rattle.ci_cli_words.specs.declared.wrong.WrongValue.{WrongValue}

abbrev pub is_kind : Text → Bool
is_kind text = bytes_eq text (codes "queue") || (bytes_eq text (codes "pipeline") || bytes_eq text (codes "runners"))

-- the value stands under its option, which can't have it; of the texts of variables: one is none, or two have the same name
abbrev pub IsWrong : List Row → WrongValue → Type 0
IsWrong rows (WrongValue.Dashed option given) = HasWord option.now rows given × (value_of option.now rows ≡ None)
IsWrong rows (WrongValue.Ref given) = HasWord (codes "ref") rows given × (is_name given.now ≡ false)
IsWrong rows (WrongValue.Source given) = HasWord (codes "source") rows given × (source_named given.now ≡ None)
IsWrong rows (WrongValue.Variable given) = is_variable [] given.now ≡ false
IsWrong rows (WrongValue.Again before given) = bytes_eq (parted before.now).0 (parted given.now).0 ≡ true
IsWrong rows (WrongValue.Kind given) = HasWord (codes "kind") rows given × (is_kind given.now ≡ false)
IsWrong rows (WrongValue.OfNone given) = HasWord (codes "kind") rows given × (bytes_eq given.now (codes "pipeline") ≡ false)
IsWrong rows WrongValue.NoNumber = number_of 64 (codes "pipeline") rows ≡ None
IsWrong rows (WrongValue.Log given) = HasWord (codes "log") rows given × (log_named given.now ≡ None)
IsWrong rows (WrongValue.Day given) = HasWord (codes "before") rows given × ((seconds : ℕ) → ¬ IsDateAt given.now seconds)
