-- The meaning of a tree is never X8: that is the fault of a pattern that was refused.
use Rattle.std.proofs.Common.{◌≡◌, ◌≢◌, ℕ, suc, Bool, true, false, cond, not, List, [], ◌∷◌, ◌++◌, Option, Some, None, Result, Ok, Err, length, refl, sym, ◌∙◌, ap, nat_lt}
use Rattle.std.specs.Prelude.{⊤}
use Rattle.ci_config.specs.Prelude.{is_name, Causes, duration_of, Variables, is_variable_name, meaning_of, word_in, sequence, mapping, Value, null, boolean, number, text, node}
use Rattle.ci_config.specs.Prelude.{ExprCode, X1, X2, X3, X4, X5, X6, X7, X8, Formula, IsOwn, exit_code_of, exit_code_in, exit_codes_of, allow_failure_value, allow_failure_entry}
use Rattle.ci_config.specs.Prelude.{allow_failure_said, allow_failure_from, yes_or_no, allow_failure_of, Need, Rule, Job, Config, expression_of, built, condition_by, condition_of}
use Rattle.ci_config.specs.Prelude.{Fault, K1, K4, K5, K6, K7, K8, K9, K10, K11, K12, K13, K15, K16, Placed, FileSaid, is_among, stage_in, stages_of, is_hidden, job_of, with_job}
use Rattle.ci_config.specs.Prelude.{job_value, other_value, file_value, file_entry, blank_file, file_from, lines_of, script_of, plain_job_value, job_entry, blank_job, job_from}
use Rattle.ci_config.specs.Prelude.{config_of, is_nil, index_of, jobs_judged, judged, file_config, reading, unplaced, meaning, NeedSaid, need_value, need_entry, need_said}
use Rattle.ci_config.specs.Prelude.{blank_need, need_from, need_of, needs_of, ◌>>=◌, within, demand, demand_at, or_fault, each, entries, left_out_or_unknown, other_key, keyword_of}
use Rattle.ci_config.specs.Prelude.{no_causes, all_causes, with_cause, cause_of, cause_in, causes_of, RetrySaid, max_of, retry_value, retry_entry, retry_said, blank_retry}
use Rattle.ci_config.specs.Prelude.{retry_from, retry_of, rule_value, rule_entry, blank_rule, rule_from, rule_of, rules_from, rules_of, whens, causes, file_keywords, file_left_out}
use Rattle.ci_config.specs.Prelude.{job_keywords, job_left_out, rule_keywords, rule_left_out, need_keywords, need_left_out, retry_keywords, retry_left_out, allow_failure_keywords}
use Rattle.ci_config.specs.Prelude.{allow_failure_left_out, is_text, is_bool, is_number, is_map, text_of, bool_of, list_of, map_of, plain_of, name_of, up_to, number_up_to, lasting}
use Rattle.ci_config.specs.Prelude.{timeout_of, text_in, texts_of, name_in, names_of, variable_in, variables_of, when_word, in_job, when_of, in_rule, rule_when_of}
use Rattle.ci_config.specs.Prelude.{AllowFailureKeyword, FileKeyword, JobKeyword, NeedKeyword, PlainJobKeyword, PlainRuleKeyword, RetryKeyword, RuleKeyword, WhenWord, Runs, Never}
use Rattle.ci_config.specs.Prelude.{Delayed, MAX_STAGES, MAX_JOBS, MAX_VARIABLES, MAX_TAGS, MAX_RULES, MAX_SCRIPT_ITEMS, MAX_EXIT_CODE, MAX_EXIT_CODES, MAX_RETRIES}
use Rattle.ci_config.specs.Config.{Text}
use Rattle.ci_config.specs.Jobs as job
use Rattle.ci_config.specs.Values.{number_of}

-- no expression has X8 as a fault of its own
abbrev ExpressionsOwn : Type 0
ExpressionsOwn = (text : Text) → IsOwn (expression_of text)

abbrev pub is_x8 : Fault → Bool
is_x8 (K13 X8) = true
is_x8 _ = false

abbrev pub Own : {A : Type 0} → Result A Placed → Type 0
Own (Ok x) = ⊤
Own (Err f) = is_x8 f.fault ≡ false

own-then : {A B : Type 0} (m : Result A Placed) (k : A → Result B Placed) → Own m → ((x : A) → Own (k x)) → Own (m >>= k)
own-then (Ok x) k h g = g x
own-then (Err f) k h g = h

own-within : {A : Type 0} (i : ℕ) (m : Result A Placed) → Own m → Own (within i m)
own-within i (Ok x) h = tt
own-within i (Err f) h = h

own-demand_at : {A : Type 0} (way : List ℕ) (holds : Bool) (f : Fault) (m : Result A Placed) → is_x8 f ≡ false → Own m → Own (demand_at way holds f m)
own-demand_at way true f m e h = h
own-demand_at way false f m e h = e

own-demand : {A : Type 0} (holds : Bool) (f : Fault) (m : Result A Placed) → is_x8 f ≡ false → Own m → Own (demand holds f m)
own-demand = own-demand_at []

own-or : {A : Type 0} (o : Option A) (f : Fault) → is_x8 f ≡ false → Own (or_fault o f)
own-or (Some x) f e = tt
own-or None f e = e

own-if : {A : Type 0} (b : Bool) (m n : Result A Placed) → Own m → Own n → Own (cond b m n)
own-if true m n h g = h
own-if false m n h g = g

own-each : {A B : Type 0} (read : List B → A → Result B Placed) → ((done : List B) (x : A) → Own (read done x)) → (done : List B) (xs : List A) → Own (each read done xs)
own-each read h done [] = tt
own-each read h done (x ∷ xs) =
    own-then (within (length done) (read done x)) (λ y. each read (done ++ y ∷ []) xs) (own-within (length done) (read done x) (h done x)) (λ y. own-each read h (done ++ y ∷ []) xs)

own-entries : {A S : Type 0} (set : ℕ → A → S → Result S Placed) → ((i : ℕ) (x : A) (s : S) → Own (set i x s)) → (i : ℕ) (s : S) (xs : List A) → Own (entries set i s xs)
own-entries set h i s [] = tt
own-entries set h i s (x ∷ xs) = own-then (within i (set i x s)) (λ next. entries set (suc i) next xs) (own-within i (set i x s) (h i x s)) (λ next. own-entries set h (suc i) next xs)

own-other : (o : Option Text) → is_x8 (left_out_or_unknown o) ≡ false
own-other (Some name) = refl
own-other None = refl

own-keyword : {T : Type 0} (keywords : List (Text × T)) (left_out : List Text) (key : Text) → Own (keyword_of keywords left_out key)
own-keyword keywords left_out key = own-or (meaning_of keywords key) (other_key left_out key) (own-other (word_in left_out key))

-- ---- values
own-text : (v : Value) → Own (text_of v)
own-text null = refl
own-text (boolean b) = refl
own-text (number n) = refl
own-text (text bs) = tt
own-text (node kind ms) = refl

own-bool : (v : Value) → Own (bool_of v)
own-bool null = refl
own-bool (boolean b) = tt
own-bool (number n) = refl
own-bool (text bs) = refl
own-bool (node kind ms) = refl

own-number : (v : Value) → Own (number_of v)
own-number null = refl
own-number (boolean b) = refl
own-number (number n) = tt
own-number (text bs) = refl
own-number (node kind ms) = refl

own-list : (v : Value) → Own (list_of v)
own-list null = refl
own-list (boolean b) = refl
own-list (number n) = refl
own-list (text bs) = refl
own-list (node sequence ms) = tt
own-list (node mapping ms) = refl

own-map : (v : Value) → Own (map_of v)
own-map null = refl
own-map (boolean b) = refl
own-map (number n) = refl
own-map (text bs) = refl
own-map (node sequence ms) = refl
own-map (node mapping ms) = tt

own-plain : (v : Value) → Own (plain_of v)
own-plain null = refl
own-plain (boolean b) = refl
own-plain (number n) = tt
own-plain (text bs) = tt
own-plain (node kind ms) = refl

own-name : (v : Value) → Own (name_of v)
own-name v = own-then (text_of v) (λ bs. demand (is_name bs) K16 (Ok bs)) (own-text v) (λ bs. own-demand (is_name bs) K16 (Ok bs) refl tt)

own-up_to : (limit : ℕ) (f : Fault) (v : Value) → is_x8 f ≡ false → Own (number_up_to limit f v)
own-up_to limit f v e = own-then (number_of v) (λ n. or_fault (up_to limit n) f) (own-number v) (λ n. own-or (up_to limit n) f e)

own-timeout : (v : Value) → Own (timeout_of v)
own-timeout v = own-then (text_of v) lasting (own-text v) (λ bs. own-or (duration_of bs) K10 refl)

own-text_in : (limit : ℕ) (done : List Text) (v : Value) → Own (text_in limit done v)
own-text_in limit done v = own-then (text_of v) (λ bs. demand (nat_lt (length done) limit) K11 (Ok bs)) (own-text v) (λ bs. own-demand (nat_lt (length done) limit) K11 (Ok bs) refl tt)

own-texts : (limit : ℕ) (v : Value) → Own (texts_of limit v)
own-texts limit v = own-then (list_of v) (λ vs. each (text_in limit) [] vs) (own-list v) (λ vs. own-each (text_in limit) (own-text_in limit) [] vs)

own-name_in : (limit : ℕ) (done : List Text) (v : Value) → Own (name_in limit done v)
own-name_in limit done v =
    own-then (text_of v) (λ bs. demand (nat_lt (length done) limit) K11 (demand (is_name bs) K16 (Ok bs))) (own-text v)
    (λ bs. own-demand (nat_lt (length done) limit) K11 (demand (is_name bs) K16 (Ok bs)) refl (own-demand (is_name bs) K16 (Ok bs) refl tt))

own-names : (limit : ℕ) (v : Value) → Own (names_of limit v)
own-names limit v = own-then (list_of v) (λ vs. each (name_in limit) [] vs) (own-list v) (λ vs. own-each (name_in limit) (own-name_in limit) [] vs)

own-variable : (done : Variables) (m : Text × Value) → Own (variable_in done m)
own-variable done m =
    own-then (plain_of m.1) (λ value. demand (nat_lt (length done) MAX_VARIABLES) K11 (demand (is_variable_name m.0) K12 (Ok (m.0, value)))) (own-plain m.1)
    (λ value. own-demand (nat_lt (length done) MAX_VARIABLES) K11 (demand (is_variable_name m.0) K12 (Ok (m.0, value))) refl (own-demand (is_variable_name m.0) K12 (Ok (m.0, value)) refl tt))

own-variables : (v : Value) → Own (variables_of v)
own-variables v = own-then (map_of v) (λ ms. each variable_in [] ms) (own-map v) (λ ms. own-each variable_in own-variable [] ms)

-- ---- when, retries, allow_failure, needs
own-when_word : (v : Value) → Own (when_word v)
own-when_word v = own-then (text_of v) (λ word. or_fault (meaning_of whens word) K8) (own-text v) (λ word. own-or (meaning_of whens word) K8 refl)

own-in_job : (w : WhenWord) → Own (in_job w)
own-in_job (Runs w) = tt
own-in_job Never = refl
own-in_job Delayed = refl

own-in_rule : (w : WhenWord) → Own (in_rule w)
own-in_rule (Runs w) = tt
own-in_rule Never = tt
own-in_rule Delayed = refl

own-when : (v : Value) → Own (when_of v)
own-when v = own-then (when_word v) in_job (own-when_word v) own-in_job

own-rule_when : (v : Value) → Own (rule_when_of v)
own-rule_when v = own-then (when_word v) in_rule (own-when_word v) own-in_rule

own-cause : (v : Value) → Own (cause_of v)
own-cause v = own-then (text_of v) (λ word. or_fault (meaning_of causes word) K9) (own-text v) (λ word. own-or (meaning_of causes word) K9 refl)

own-cause_in : (v : Value) (set : Causes) → Own (cause_in v set)
own-cause_in v set = own-then (cause_of v) (λ c. Ok (with_cause c set)) (own-cause v) (λ c. tt)

own-causes : (v : Value) → Own (causes_of v)
own-causes v =
    own-if (is_text v) (cause_in v no_causes) (list_of v >>= λ vs. entries (λ before. cause_in) 0 no_causes vs) (own-cause_in v no_causes)
    (own-then (list_of v) (λ vs. entries (λ before. cause_in) 0 no_causes vs) (own-list v) (λ vs. own-entries (λ before. cause_in) (λ before. own-cause_in) 0 no_causes vs))

own-max : (v : Value) → Own (max_of v)
own-max v = own-up_to MAX_RETRIES K9 v refl

own-retry_value : (k : RetryKeyword) (v : Value) (r : RetrySaid) → Own (retry_value k v r)
own-retry_value RetryKeyword.Max v r = own-then (max_of v) (λ max. Ok (record r { max = Some max })) (own-max v) (λ max. tt)
own-retry_value RetryKeyword.When v r = own-then (causes_of v) (λ causes. Ok (record r { causes = causes })) (own-causes v) (λ causes. tt)

own-retry_entry : (m : Text × Value) (r : RetrySaid) → Own (retry_entry m r)
own-retry_entry m r = own-then (keyword_of retry_keywords retry_left_out m.0) (λ k. retry_value k m.1 r) (own-keyword retry_keywords retry_left_out m.0) (λ k. own-retry_value k m.1 r)

own-retry_from : (ms : List (Text × Value)) → Own (retry_from ms)
own-retry_from ms =
    own-then (entries (λ before. retry_entry) 0 blank_retry ms) retry_said (own-entries (λ before. retry_entry) (λ before. own-retry_entry) 0 blank_retry ms)
    (λ r. own-then (or_fault r.max K9) (λ max. Ok (record { max = max; causes = r.causes })) (own-or r.max K9 refl) (λ max. tt))

own-retry : (v : Value) → Own (retry_of v)
own-retry v =
    own-if (is_number v) (max_of v >>= λ max. Ok (record { max = max; causes = all_causes })) (map_of v >>= retry_from)
    (own-then (max_of v) (λ max. Ok (record { max = max; causes = all_causes })) (own-max v) (λ max. tt)) (own-then (map_of v) retry_from (own-map v) own-retry_from)

own-exit_code : (v : Value) → Own (exit_code_of v)
own-exit_code v = own-up_to MAX_EXIT_CODE K4 v refl

own-exit_code_in : (done : List ℕ) (v : Value) → Own (exit_code_in done v)
own-exit_code_in done v =
    own-then (exit_code_of v) (λ code. demand (nat_lt (length done) MAX_EXIT_CODES) K11 (Ok code)) (own-exit_code v) (λ code. own-demand (nat_lt (length done) MAX_EXIT_CODES) K11 (Ok code) refl tt)

own-exit_codes : (v : Value) → Own (exit_codes_of v)
own-exit_codes v =
    own-if (is_number v) (exit_code_of v >>= λ code. Ok (code ∷ [])) (list_of v >>= λ vs. each exit_code_in [] vs) (own-then (exit_code_of v) (λ code. Ok (code ∷ [])) (own-exit_code v) (λ code. tt))
    (own-then (list_of v) (λ vs. each exit_code_in [] vs) (own-list v) (λ vs. own-each exit_code_in own-exit_code_in [] vs))

own-allow_value : (k : AllowFailureKeyword) (v : Value) (said : Option (List ℕ)) → Own (allow_failure_value k v said)
own-allow_value AllowFailureKeyword.ExitCodes v said = own-then (exit_codes_of v) (λ codes. Ok (Some codes)) (own-exit_codes v) (λ codes. tt)

own-allow_entry : (m : Text × Value) (said : Option (List ℕ)) → Own (allow_failure_entry m said)
own-allow_entry m said =
    own-then (keyword_of allow_failure_keywords allow_failure_left_out m.0) (λ k. allow_failure_value k m.1 said) (own-keyword allow_failure_keywords allow_failure_left_out m.0)
    (λ k. own-allow_value k m.1 said)

own-allow_said : (said : Option (List ℕ)) → Own (allow_failure_said said)
own-allow_said None = refl
own-allow_said (Some codes) = tt

own-allow_from : (ms : List (Text × Value)) → Own (allow_failure_from ms)
own-allow_from ms = own-then (entries (λ before. allow_failure_entry) 0 None ms) allow_failure_said (own-entries (λ before. allow_failure_entry) (λ before. own-allow_entry) 0 None ms) own-allow_said

own-allow : (v : Value) → Own (allow_failure_of v)
own-allow v =
    own-if (is_bool v) (bool_of v >>= λ b. Ok (yes_or_no b)) (map_of v >>= allow_failure_from) (own-then (bool_of v) (λ b. Ok (yes_or_no b)) (own-bool v) (λ b. tt))
    (own-then (map_of v) allow_failure_from (own-map v) own-allow_from)

own-need_value : (k : NeedKeyword) (v : Value) (n : NeedSaid) → Own (need_value k v n)
own-need_value NeedKeyword.Job v n = own-then (name_of v) (λ name. Ok (record n { job = Some name })) (own-name v) (λ name. tt)
own-need_value NeedKeyword.Optional v n = own-then (bool_of v) (λ b. Ok (record n { optional = b })) (own-bool v) (λ b. tt)

own-need_entry : (m : Text × Value) (n : NeedSaid) → Own (need_entry m n)
own-need_entry m n = own-then (keyword_of need_keywords need_left_out m.0) (λ k. need_value k m.1 n) (own-keyword need_keywords need_left_out m.0) (λ k. own-need_value k m.1 n)

own-need_from : (ms : List (Text × Value)) → Own (need_from ms)
own-need_from ms =
    own-then (entries (λ before. need_entry) 0 blank_need ms) need_said (own-entries (λ before. need_entry) (λ before. own-need_entry) 0 blank_need ms)
    (λ n. own-then (or_fault n.job K4) (λ job. Ok (record { job = job; optional = n.optional })) (own-or n.job K4 refl) (λ job. tt))

own-need : (done : List Need) (v : Value) → Own (need_of done v)
own-need done v =
    own-if (is_text v) (name_of v >>= λ name. Ok (record { job = name; optional = false })) (map_of v >>= need_from)
    (own-then (name_of v) (λ name. Ok (record { job = name; optional = false })) (own-name v) (λ name. tt)) (own-then (map_of v) need_from (own-map v) own-need_from)

own-needs : (v : Value) → Own (needs_of v)
own-needs v = own-then (list_of v) (λ vs. each need_of [] vs) (own-list v) (λ vs. own-each need_of own-need [] vs)

-- ---- rules
own-code : (x : ExprCode) → x ≢ X8 → is_x8 (K13 x) ≡ false
own-code X1 h = refl
own-code X2 h = refl
own-code X3 h = refl
own-code X4 h = refl
own-code X5 h = refl
own-code X6 h = refl
own-code X7 h = refl
own-code X8 h = absurd (h refl)

own-condition : ExpressionsOwn → (bs : Text) → Own (condition_of bs built)
own-condition law bs = by-value (expression_of bs) (law bs)
  where
    by-value : (r : Result Formula ExprCode) → IsOwn r → Own (condition_by built r)
    by-value (Ok f) h = tt
    by-value (Err x) h = own-code x h

own-rule_value : ExpressionsOwn → (k : RuleKeyword) (v : Value) (r : Rule) → Own (rule_value k v r built)
own-rule_value law RuleKeyword.If v r =
    own-then (text_of v) (λ bs. condition_of bs built >>= λ f. Ok (record r { condition = Some f })) (own-text v)
    (λ bs. own-then (condition_of bs built) (λ f. Ok (record r { condition = Some f })) (own-condition law bs) (λ f. tt))
own-rule_value law (RuleKeyword.Plain PlainRuleKeyword.When) v r = own-then (rule_when_of v) (λ w. Ok (record r { when = Some w })) (own-rule_when v) (λ w. tt)
own-rule_value law (RuleKeyword.Plain PlainRuleKeyword.AllowFailure) v r = own-then (bool_of v) (λ b. Ok (record r { allow_failure = Some b })) (own-bool v) (λ b. tt)
own-rule_value law (RuleKeyword.Plain PlainRuleKeyword.Variables) v r = own-then (variables_of v) (λ vs. Ok (record r { variables = vs })) (own-variables v) (λ vs. tt)

own-rule_entry : ExpressionsOwn → (m : Text × Value) (r : Rule) → Own (rule_entry built m r)
own-rule_entry law m r = own-then (keyword_of rule_keywords rule_left_out m.0) (λ k. rule_value k m.1 r built) (own-keyword rule_keywords rule_left_out m.0) (λ k. own-rule_value law k m.1 r)

own-rule : ExpressionsOwn → (done : List Rule) (v : Value) → Own (rule_of built done v)
own-rule law done v =
    own-then (map_of v) (λ ms. demand (nat_lt (length done) MAX_RULES) K11 (rule_from built ms)) (own-map v)
    (λ ms. own-demand (nat_lt (length done) MAX_RULES) K11 (rule_from built ms) refl (own-entries (λ before. rule_entry built) (λ before. own-rule_entry law) 0 blank_rule ms))

own-rules : ExpressionsOwn → (v : Value) → Own (rules_of v built)
own-rules law v = own-then (list_of v) (rules_from built) (own-list v) (λ vs. own-each (rule_of built) (own-rule law) [] vs)

-- ---- jobs
own-script : (v : Value) → Own (script_of v)
own-script v =
    own-if (is_text v) (text_of v >>= λ bs. Ok (lines_of bs)) (texts_of MAX_SCRIPT_ITEMS v) (own-then (text_of v) (λ bs. Ok (lines_of bs)) (own-text v) (λ bs. tt)) (own-texts MAX_SCRIPT_ITEMS v)

own-plain_job : (k : PlainJobKeyword) (v : Value) (j : Job) → Own (plain_job_value k v j)
own-plain_job PlainJobKeyword.Script v j = own-then (script_of v) (λ x. Ok (record j { script = x })) (own-script v) (λ x. tt)
own-plain_job PlainJobKeyword.Stage v j = own-then (name_of v) (λ x. Ok (record j { stage = x })) (own-name v) (λ x. tt)
own-plain_job PlainJobKeyword.Needs v j = own-then (needs_of v) (λ x. Ok (record j { needs = Some x })) (own-needs v) (λ x. tt)
own-plain_job PlainJobKeyword.When v j = own-then (when_of v) (λ x. Ok (record j { when = Some x })) (own-when v) (λ x. tt)
own-plain_job PlainJobKeyword.AllowFailure v j = own-then (allow_failure_of v) (λ x. Ok (record j { allow_failure = Some x })) (own-allow v) (λ x. tt)
own-plain_job PlainJobKeyword.Retry v j = own-then (retry_of v) (λ x. Ok (record j { retry = Some x })) (own-retry v) (λ x. tt)
own-plain_job PlainJobKeyword.Tags v j = own-then (names_of MAX_TAGS v) (λ x. Ok (record j { tags = x })) (own-names MAX_TAGS v) (λ x. tt)
own-plain_job PlainJobKeyword.Timeout v j = own-then (timeout_of v) (λ x. Ok (record j { timeout = Some x })) (own-timeout v) (λ x. tt)
own-plain_job PlainJobKeyword.ResourceGroup v j = own-then (name_of v) (λ x. Ok (record j { resource_group = Some x })) (own-name v) (λ x. tt)
own-plain_job PlainJobKeyword.Interruptible v j = own-then (bool_of v) (λ x. Ok (record j { interruptible = x })) (own-bool v) (λ x. tt)
own-plain_job PlainJobKeyword.Variables v j = own-then (variables_of v) (λ x. Ok (record j { variables = x })) (own-variables v) (λ x. tt)

own-job_value : ExpressionsOwn → (k : JobKeyword) (v : Value) (j : Job) → Own (job.job_value k v j built)
own-job_value law JobKeyword.Rules v j = own-then (rules_of v built) (λ x. Ok (record j { rules = Some x })) (own-rules law v) (λ x. tt)
own-job_value law (JobKeyword.Plain k) v j = own-plain_job k v j

own-job_entry : ExpressionsOwn → (m : Text × Value) (j : Job) → Own (job_entry built m j)
own-job_entry law m j = own-then (keyword_of job_keywords job_left_out m.0) (λ k. job.job_value k m.1 j built) (own-keyword job_keywords job_left_out m.0) (λ k. own-job_value law k m.1 j)

-- ---- files
own-stage : (done : List Text) (v : Value) → Own (stage_in done v)
own-stage done v =
    own-then (text_of v) (λ bs. demand (not (is_among done bs)) K7 (demand (nat_lt (length done) MAX_STAGES) K11 (demand (is_name bs) K16 (Ok bs)))) (own-text v)
    (λ bs. own-demand (not (is_among done bs)) K7 (demand (nat_lt (length done) MAX_STAGES) K11 (demand (is_name bs) K16 (Ok bs))) refl
    (own-demand (nat_lt (length done) MAX_STAGES) K11 (demand (is_name bs) K16 (Ok bs)) refl (own-demand (is_name bs) K16 (Ok bs) refl tt)))

own-stages : (v : Value) → Own (stages_of v)
own-stages v = own-then (list_of v) (λ vs. each stage_in [] vs) (own-list v) (λ vs. own-each stage_in own-stage [] vs)

own-job : ExpressionsOwn → (before : ℕ) (name : Text) (v : Value) → Own (job_of before name v built)
own-job law before name v =
    own-then (map_of v) (λ ms. demand (nat_lt before MAX_JOBS) K11 (demand (is_name name) K16 (job_from built name ms))) (own-map v)
    (λ ms. own-demand (nat_lt before MAX_JOBS) K11 (demand (is_name name) K16 (job_from built name ms)) refl
    (own-demand (is_name name) K16 (job_from built name ms) refl (own-entries (λ before. job_entry built) (λ before. own-job_entry law) 0 (blank_job name) ms)))

own-file_job : ExpressionsOwn → (name : Text) (v : Value) (f : FileSaid) → Own (job_value name v f built)
own-file_job law name v f = own-then (job_of (length f.jobs) name v built) (λ j. Ok (with_job f j)) (own-job law (length f.jobs) name v) (λ j. tt)

own-other_value : ExpressionsOwn → (o : Option Text) (key : Text) (v : Value) (f : FileSaid) → Own (other_value o key v f built)
own-other_value law (Some name) key v f = refl
own-other_value law None key v f = own-if (is_hidden key) (Ok f) (job_value key v f built) tt (own-file_job law key v f)

own-file_value : ExpressionsOwn → (o : Option FileKeyword) (key : Text) (v : Value) (f : FileSaid) → Own (file_value o key v f built)
own-file_value law (Some FileKeyword.Stages) key v f = own-then (stages_of v) (λ x. Ok (record f { stages = Some x })) (own-stages v) (λ x. tt)
own-file_value law (Some FileKeyword.Variables) key v f = own-then (variables_of v) (λ x. Ok (record f { variables = x })) (own-variables v) (λ x. tt)
own-file_value law None key v f = own-other_value law (word_in file_left_out key) key v f

own-file_entry : ExpressionsOwn → (m : Text × Value) (f : FileSaid) → Own (file_entry built m f)
own-file_entry law m f = own-file_value law (meaning_of file_keywords m.0) m.0 m.1 f

own-jobs : (ms : List (Text × Value)) (stages : List Text) (js : List Job) (next : Result Config Placed) → Own next → Own (jobs_judged ms stages js next)
own-jobs ms stages [] next h = h
own-jobs ms stages (j ∷ js) next h =
    let way = index_of ms j.name ∷ [] in
    own-demand_at way (not (is_nil j.script)) K5 (demand_at way (is_among stages j.stage) K6 (jobs_judged ms stages js next)) refl
    (own-demand_at way (is_among stages j.stage) K6 (jobs_judged ms stages js next) refl (own-jobs ms stages js next h))

pub own-judged : (ms : List (Text × Value)) (c : Config) → Own (judged ms c)
own-judged ms c = own-jobs ms c.stages c.jobs (demand (not (is_nil c.jobs)) K15 (Ok c)) (own-demand (not (is_nil c.jobs)) K15 (Ok c) refl tt)

own-config : ExpressionsOwn → (ms : List (Text × Value)) → Own (file_config ms built)
own-config law ms =
    own-then (file_from ms built) (λ f. judged ms (config_of f)) (own-entries (λ before. file_entry built) (λ before. own-file_entry law) 0 blank_file ms) (λ f. own-judged ms (config_of f))

own-reading : ExpressionsOwn → (v : Value) → Own (reading built v)
own-reading law v =
    own-demand (is_map v) K1 (map_of v >>= λ ms. file_config ms built) refl (own-then (map_of v) (λ ms. file_config ms built) (own-map v) (own-config law))

pub no-x8 : ExpressionsOwn → (v : Value) → meaning built v ≢ Err (K13 X8)
no-x8 law v e = absurd (by-value (reading built v) (own-reading law v) e)
  where
    by-value : (r : Result Config Placed) → Own r → unplaced r ≡ Err (K13 X8) → ⊥
    by-value (Ok c) h e = absurd cc
    by-value (Err f) h e = let same : f.fault ≡ K13 X8 = cc in let is : true ≡ false = sym (ap is_x8 same) ∙ h in absurd cc
