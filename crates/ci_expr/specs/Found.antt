-- When a pattern is found in a text, in the words of `regex`.
use Rattle.std.specs.Prelude.{◌≡◌, ℕ, ◌<◌, ◌≤◌, Bool, false, List, Option, Some, None, IsSomeAnd, IfSome, is_some, ⊤}
use Rattle.regex.specs.Patterns.{Re, find_str, Config, default_config, Reads}
use Rattle.regex_hir.specs.Meaning.{meaning}
use Rattle.regex_hir.specs.declared.hir.Hir.{Hir}
use Rattle.regex_syntax.specs.Brackets.{Nested}
use Rattle.regex_syntax.specs.Grammar.{Names, read}
use Rattle.regex_nfa.specs.Sizes.{table_bytes}
use Rattle.regex_nfa.specs.declared.nfa.Nfa.{Nfa}
use Rattle.regex_compile.specs.Implements.{Implements}
use Rattle.ci_expr.specs.declared.pattern.Refusal.{Refusal}

-- the default options of `regex`, with letters in either case or not
abbrev pub config_of : Bool → Config
config_of insensitive = record default_config { flags = record default_config.flags { case_insensitive = insensitive } }

abbrev pub found_by : Option (Nested Re × Names) → List ℕ → Bool
found_by None text = false
found_by (Some x) text = is_some (find_str x.0.value text 0)

-- what `regex` reads in the pattern's characters has a find in the text
abbrev pub is_found_in : Config → List ℕ → List ℕ → Bool
is_found_in config source text = found_by (read config source) text

-- `regex` has the pattern of these characters: its grammar reads them, and they nest no deeper than it takes
abbrev pub IsPattern : Bool → List ℕ → Type 0
IsPattern insensitive source = IsSomeAnd (read (config_of insensitive) source) (λ (re, names). re.depth ≤ 250)

-- it hasn't
abbrev pub IsNoPattern : Bool → List ℕ → Type 0
IsNoPattern insensitive source = IfSome (read (config_of insensitive) source) (λ (re, names). 250 < re.depth)

-- Why a pattern was not built: of a pattern that is too big `regex` says that it is one, and not how big.
abbrev pub IsRefused : Bool → List ℕ → Refusal → Type 0
IsRefused insensitive source Refusal.Memory = ⊤
IsRefused insensitive source Refusal.Syntax = IsNoPattern insensitive source
IsRefused insensitive source Refusal.Size = IsPattern insensitive source

-- the automaton of `regex` for what it reads in a source
abbrev pub IsAutomatonOf : Bool → List ℕ → Nfa → Type 0
IsAutomatonOf insensitive source nfa = (hir : Hir) × (names : Names) × Reads (config_of insensitive) source hir names × Implements nfa (meaning hir)

-- the tables of such an automaton take so many bytes, as a fact with one proof
abbrev pub HasTables : Bool → List ℕ → ℕ → Type 0
HasTables insensitive source bytes = ∥ ((nfa : Nfa) × IsAutomatonOf insensitive source nfa × (bytes ≡ table_bytes nfa)) ∥₁
