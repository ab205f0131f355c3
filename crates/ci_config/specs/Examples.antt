-- Trees of small files, for worked examples.
use Rattle.std.specs.Prelude.{ℕ, zero, suc, ◌+◌, pos, negsuc, Bool, true, false, List, [], ◌∷◌, map, replicate, Some, None, Result, Err, is_ok, codes}
use Rattle.std.specs.Fmt.{signed_decimal}
use Rattle.ci_yaml_lines.specs.Prelude.{ExitCodes, Manual, sequence, mapping, Value, null, boolean, number, text, node, Members, no_members, member}
use Rattle.ci_expr.specs.Prelude.{present}
use Rattle.ci_config.specs.Config.{Text, Config}
use Rattle.ci_config.specs.Expressions.{built}
use Rattle.ci_config.specs.Fault.{Fault, K2}
use Rattle.ci_config.specs.Meaning.{meaning}
use Rattle.ci_config.specs.declared.keyword.RuleWhen.TheVariants.{Never}

abbrev pub entries_of : List (Text × Value) → Members
entries_of [] = no_members
entries_of (m ∷ ms) = member m.0 m.1 (entries_of ms)

abbrev pub items_of : List Value → Members
items_of [] = no_members
items_of (v ∷ vs) = member [] v (items_of vs)

abbrev pub a_map : List (Text × Value) → Value
a_map ms = node mapping (entries_of ms)

abbrev pub a_list : List Value → Value
a_list vs = node sequence (items_of vs)

-- a job with a script alone
abbrev pub plain_job : Value
plain_job = a_map ((codes "script", text (codes "x")) ∷ [])

-- a file with a job that has a script and this entry
abbrev pub with_entry : Text → Value → Value
with_entry key v = a_map ((codes "a", a_map ((codes "script", text (codes "x")) ∷ (key, v) ∷ [])) ∷ [])

-- so many jobs
abbrev pub jobs : ℕ → List (Text × Value)
jobs zero = []
jobs (suc n) = (codes "a", plain_job) ∷ jobs n

-- ---- files up to a limit

-- the tree configures something
abbrev pub configures : Value → Bool
configures v = is_ok (meaning built v)

-- so many texts, each another one
abbrev pub names : ℕ → List Value
names zero = []
names (suc n) = text ((n + 65) ∷ []) ∷ names n

-- a file that lists so many stages
abbrev pub with_stages : ℕ → Value
with_stages n = a_map ((codes "stages", a_list (names n)) ∷ (codes "a", a_map ((codes "stage", text (codes ".pre")) ∷ (codes "script", text (codes "x")) ∷ [])) ∷ [])

-- a file with so many jobs, and a hidden one
abbrev pub with_jobs : ℕ → Value
with_jobs n = a_map ((codes ".hidden", null) ∷ jobs n)

-- a job with a script of so many texts
abbrev pub with_script : ℕ → Value
with_script n = a_map ((codes "a", a_map ((codes "script", a_list (replicate n (text (codes "x")))) ∷ [])) ∷ [])

-- so many variables; a file with them, and a job with them
abbrev pub variables : ℕ → Value
variables n = a_map (replicate n (codes "A", text (codes "x")))

abbrev pub with_variables : ℕ → Value
with_variables n = a_map ((codes "variables", variables n) ∷ (codes "a", plain_job) ∷ [])

abbrev pub with_own_variables : ℕ → Value
with_own_variables n = with_entry (codes "variables") (variables n)

-- a job with so many rules, and one with so many tags
abbrev pub with_rules : ℕ → Value
with_rules n = with_entry (codes "rules") (a_list (replicate n (a_map ((codes "when", text (codes "never")) ∷ []))))

abbrev pub with_tags : ℕ → Value
with_tags n = with_entry (codes "tags") (a_list (replicate n (text (codes "t"))))

-- a job that may fail with these exit codes
abbrev pub with_exit_codes : List ℕ → Value
with_exit_codes codes_taken = with_entry (codes "allow_failure") (a_map ((codes "exit_codes", a_list (map (λ n. number (pos n)) codes_taken)) ∷ []))

-- a job with three rules: an expression without a pattern, and two with one
abbrev pub with_patterns : Value
with_patterns =
    with_entry (codes "rules") (
    a_list (
    a_map ((codes "if", text (codes "$A")) ∷ [])
    ∷ a_map ((codes "when", text (codes "never")) ∷ (codes "if", text (codes "$A =~ /x/")) ∷ [])
    ∷ a_map ((codes "if", text (codes "$A =~ /y/")) ∷ []) ∷ []))

-- ---- names that are left out

abbrev pub left_out_of_files : List Text
left_out_of_files =
    codes "include" ∷ codes "default" ∷ codes "workflow" ∷ codes "image" ∷ codes "services" ∷ codes "cache" ∷ codes "before_script" ∷ codes "after_script" ∷ codes "pages" ∷ []

abbrev pub left_out_of_jobs : List Text
left_out_of_jobs =
    codes "extends" ∷ codes "parallel" ∷ codes "trigger" ∷ codes "environment" ∷ codes "artifacts" ∷ codes "cache" ∷ codes "services" ∷ codes "image" ∷ codes "release" ∷ codes "pages"
    ∷ codes "only" ∷ codes "except" ∷ codes "inherit" ∷ codes "id_tokens" ∷ codes "secrets" ∷ codes "dast_configuration" ∷ codes "before_script" ∷ codes "after_script" ∷ codes "start_in"
    ∷ codes "coverage" ∷ codes "dependencies" ∷ codes "hooks" ∷ []

abbrev pub left_out_of_rules : List Text
left_out_of_rules = codes "changes" ∷ codes "exists" ∷ codes "needs" ∷ codes "interruptible" ∷ codes "start_in" ∷ []

abbrev pub left_out_of_needs : List Text
left_out_of_needs = codes "project" ∷ codes "ref" ∷ codes "pipeline" ∷ codes "artifacts" ∷ codes "parallel" ∷ []

-- a file with this entry, a job with it, a job with a rule and a need with it, and a job with a retry with it
abbrev pub file_with : Text → Value
file_with key = a_map ((key, text []) ∷ [])

abbrev pub job_with : Text → Value
job_with key = with_entry key (text [])

abbrev pub rule_with : Text → Value
rule_with key = with_entry (codes "rules") (a_list (a_map ((key, text []) ∷ []) ∷ []))

abbrev pub need_with : Text → Value
need_with key = with_entry (codes "needs") (a_list (a_map ((key, text []) ∷ []) ∷ []))

abbrev pub retry_with : Text → Value
retry_with key = with_entry (codes "retry") (a_map ((key, text []) ∷ []))

-- what the trees with these keys mean, and that each is left out by its name
abbrev pub meanings : (Text → Value) → List Text → List (Result Config Fault)
meanings tree keys = map (λ key. meaning built (tree key)) keys

abbrev pub all_left_out : List Text → List (Result Config Fault)
all_left_out keys = map (λ key. Err (K2 key)) keys

-- ---- a file with each keyword

abbrev pub whole_file : Value
whole_file = a_map (
    (codes "stages", a_list (text (codes "check") ∷ []))
    ∷ (codes "variables", a_map ((codes "LEVEL", number (pos 1)) ∷ []))
    ∷ (codes ".hidden", null)
    ∷ (
      codes "a",
      a_map (
          (codes "stage", text (codes "check"))
          ∷ (codes "script", a_list (text (codes "x") ∷ text (codes "y") ∷ []))
          ∷ (codes "needs", a_list (text (codes "b") ∷ a_map ((codes "job", text (codes "c")) ∷ (codes "optional", boolean true) ∷ []) ∷ []))
          ∷ (
            codes "rules",
            a_list (
                a_map ((codes "when", text (codes "never")) ∷ (codes "allow_failure", boolean true) ∷ (codes "variables", a_map ((codes "B", text (codes "z")) ∷ [])) ∷ [])
                ∷ a_map ((codes "if", text (codes "$A")) ∷ []) ∷ []),
          )
          ∷ (codes "when", text (codes "manual"))
          ∷ (codes "allow_failure", a_map ((codes "exit_codes", a_list (number (pos 1) ∷ number (pos 137) ∷ [])) ∷ []))
          ∷ (codes "retry", a_map ((codes "max", number (pos 2)) ∷ (codes "when", a_list (text (codes "script_failure") ∷ text (codes "api_failure") ∷ [])) ∷ []))
          ∷ (codes "tags", a_list (text (codes "linux") ∷ []))
          ∷ (codes "timeout", text (codes "1h 30m"))
          ∷ (codes "resource_group", text (codes "g"))
          ∷ (codes "interruptible", boolean true)
          ∷ (codes "variables", a_map ((codes "N", number (negsuc 4)) ∷ []))
          ∷ []),
    )
    ∷ [])

abbrev pub whole_config : Config
whole_config = record {
  stages = codes ".pre" ∷ codes "check" ∷ codes ".post" ∷ [];
  variables = (codes "LEVEL", signed_decimal (pos 1)) ∷ [];
  jobs = (record {
    name = codes "a";
    stage = codes "check";
    script = codes "x" ∷ codes "y" ∷ [];
    needs = Some ((record { job = codes "b"; optional = false }) ∷ (record { job = codes "c"; optional = true }) ∷ []);
    rules = Some (
        (record { condition = None; when = Some Never; allow_failure = Some true; variables = (codes "B", codes "z") ∷ [] })
        ∷ (record { condition = Some (present (codes "A")); when = None; allow_failure = None; variables = [] }) ∷ []);
    when = Some Manual;
    allow_failure = Some (ExitCodes (1 ∷ 137 ∷ []));
    retry = Some (record {
      max = 2;
      causes = record { unknown_failure = false; script_failure = true; api_failure = true; stuck_or_timeout_failure = false; runner_system_failure = false; job_execution_timeout = false };
    });
    tags = codes "linux" ∷ [];
    timeout = Some 5400;
    resource_group = Some (codes "g");
    interruptible = true;
    variables = (codes "N", signed_decimal (negsuc 4)) ∷ [];
  }) ∷ [];
}
