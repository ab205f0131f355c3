-- What is read with every pattern refused holds no pattern.
use Rattle.std.proofs.Common.{◌≡◌, ◌⊎◌, ◌++◌, ap₂, sym, ◌∙◌, ℕ, Bool, true, false, cond, not, List, [], ◌∷◌, map, Option, Some, None, Result, Ok, Err, length, refl, subst, inl}
use Rattle.std.proofs.Common.{inr, nat_lt, flat_map}
use Rattle.ci_config.specs.Prelude.{is_name, meaning_of, word_in, Value, expression_of, Formula, has_pattern, ExprCode, X8, allow_failure_of, Rule, Job, refused, condition_by}
use Rattle.ci_config.specs.Prelude.{condition_of, K1, K11, K13, K15, K16, Placed, FileSaid, stages_of, is_hidden, job_of, with_job, job_value, other_value, keyword_value}
use Rattle.ci_config.specs.Prelude.{file_value, file_entry, blank_file, file_from, script_of, plain_job_value, job_entry, blank_job, job_from, Each, RuleLacksPattern}
use Rattle.ci_config.specs.Prelude.{JobLacksPatterns, ConfigLacksPatterns, Means, config_of, is_nil, judged, file_config, reading, meaning, needs_of, ◌>>=◌, demand, keyword_of}
use Rattle.ci_config.specs.Prelude.{retry_of, plain_rule_value, rule_value, rule_entry, blank_rule, rule_from, rule_of, rules_from, rules_of, rule_keywords, rule_left_out}
use Rattle.ci_config.specs.Prelude.{job_keywords, job_left_out, file_keywords, file_left_out, is_map, text_of, bool_of, list_of, map_of, name_of, timeout_of, names_of}
use Rattle.ci_config.specs.Prelude.{variables_of, when_of, rule_when_of, FileKeyword, JobKeyword, PlainJobKeyword, PlainRuleKeyword, RuleKeyword, MAX_JOBS, MAX_RULES, MAX_TAGS}
use Rattle.ci_config.specs.Config as config
use Rattle.ci_config.specs.Config.{Text}
use Rattle.ci_config.specs.Jobs as job
use Rattle.ci_config.specs.declared.file.Config.{Config}
use Rattle.ci_config.proofs.Alike.{AlikeIn, alike}
use Rattle.ci_config.proofs.Wholes.{bound, demanded, same-ok, each-append, each-read, entries-read, not-true, jobs-judged, read-ok}

-- where whatever is set keeps a property
sets : {A S : Type 0} (P : S → Type 0) (m : Result A Placed) (set : A → S) (t : S) → ((x : A) → P (set x)) → (m >>= λ x. Ok (set x)) ≡ Ok t → P t
sets P m set t h e =
    let b = bound m (λ x. Ok (set x)) t e in
    subst P (same-ok (set b.value) t b.next) (h b.value)

-- ---- rules
abbrev Lacks : Formula → Type 0
Lacks f = has_pattern f ≡ false

abbrev RuleLacks : Rule → Type 0
RuleLacks = RuleLacksPattern

condition-lacks : (bs : Text) (f : Formula) → condition_of bs refused ≡ Ok f → Lacks f
condition-lacks bs f e = by-value (expression_of bs) e
  where
    by-value : (r : Result Formula ExprCode) → condition_by refused r ≡ Ok f → Lacks f
    by-value (Err x) e = absurd cc
    by-value (Ok g) e =
        let d = demanded (not (has_pattern g)) (K13 X8) (Ok g) f e in
        subst Lacks (same-ok g f d.1) (not-true (has_pattern g) d.0)

plain-rule-lacks : (k : PlainRuleKeyword) (v : Value) (r s : Rule) → RuleLacks r → plain_rule_value k v r ≡ Ok s → RuleLacks s
plain-rule-lacks PlainRuleKeyword.When v r s h e = sets RuleLacks (rule_when_of v) (λ w. record r { when = Some w }) s (λ w. h) e
plain-rule-lacks PlainRuleKeyword.AllowFailure v r s h e = sets RuleLacks (bool_of v) (λ b. record r { allow_failure = Some b }) s (λ b. h) e
plain-rule-lacks PlainRuleKeyword.Variables v r s h e = sets RuleLacks (variables_of v) (λ vs. record r { variables = vs }) s (λ vs. h) e

rule-value-lacks : (k : RuleKeyword) (v : Value) (r s : Rule) → RuleLacks r → rule_value k v r refused ≡ Ok s → RuleLacks s
rule-value-lacks RuleKeyword.If v r s h e =
    let a = bound (text_of v) (λ bs. condition_of bs refused >>= λ f. Ok (record r { condition = Some f })) s e in
    let b = bound (condition_of a.value refused) (λ f. Ok (record r { condition = Some f })) s a.next in
    subst RuleLacks (same-ok (record r { condition = Some b.value }) s b.next) (condition-lacks a.value b.value b.first)
rule-value-lacks (RuleKeyword.Plain k) v r s h e = plain-rule-lacks k v r s h e

rule-entry-lacks : (m : Text × Value) (r s : Rule) → RuleLacks r → rule_entry refused m r ≡ Ok s → RuleLacks s
rule-entry-lacks m r s h e =
    let b = bound (keyword_of rule_keywords rule_left_out m.0) (λ k. rule_value k m.1 r refused) s e in
    rule-value-lacks b.value m.1 r s h b.next

rule-lacks : (done : List Rule) (v : Value) (r : Rule) → rule_of refused done v ≡ Ok r → RuleLacks r
rule-lacks done v r e =
    let a = bound (map_of v) (λ ms. demand (nat_lt (length done) MAX_RULES) K11 (rule_from refused ms)) r e in
    let b = demanded (nat_lt (length done) MAX_RULES) K11 (rule_from refused a.value) r a.next in
    entries-read RuleLacks (λ before. rule_entry refused) (λ before. rule-entry-lacks) 0 blank_rule a.value r tt b.1

rules-lack : (v : Value) (rs : List Rule) → rules_of v refused ≡ Ok rs → Each RuleLacks rs
rules-lack v rs e =
    let b = bound (list_of v) (rules_from refused) rs e in
    each-read RuleLacks (rule_of refused) rule-lacks [] b.value rs tt b.next

-- ---- jobs
abbrev JobLacks : Job → Type 0
JobLacks = JobLacksPatterns

plain-value-lacks : (k : PlainJobKeyword) (v : Value) (j i : Job) → JobLacks j → plain_job_value k v j ≡ Ok i → JobLacks i
plain-value-lacks PlainJobKeyword.Script v j i h e = sets JobLacks (script_of v) (λ x. record j { script = x }) i (λ x. h) e
plain-value-lacks PlainJobKeyword.Stage v j i h e = sets JobLacks (name_of v) (λ x. record j { stage = x }) i (λ x. h) e
plain-value-lacks PlainJobKeyword.Needs v j i h e = sets JobLacks (needs_of v) (λ x. record j { needs = Some x }) i (λ x. h) e
plain-value-lacks PlainJobKeyword.When v j i h e = sets JobLacks (when_of v) (λ x. record j { when = Some x }) i (λ x. h) e
plain-value-lacks PlainJobKeyword.AllowFailure v j i h e = sets JobLacks (allow_failure_of v) (λ x. record j { allow_failure = Some x }) i (λ x. h) e
plain-value-lacks PlainJobKeyword.Retry v j i h e = sets JobLacks (retry_of v) (λ x. record j { retry = Some x }) i (λ x. h) e
plain-value-lacks PlainJobKeyword.Tags v j i h e = sets JobLacks (names_of MAX_TAGS v) (λ x. record j { tags = x }) i (λ x. h) e
plain-value-lacks PlainJobKeyword.Timeout v j i h e = sets JobLacks (timeout_of v) (λ x. record j { timeout = Some x }) i (λ x. h) e
plain-value-lacks PlainJobKeyword.ResourceGroup v j i h e = sets JobLacks (name_of v) (λ x. record j { resource_group = Some x }) i (λ x. h) e
plain-value-lacks PlainJobKeyword.Interruptible v j i h e = sets JobLacks (bool_of v) (λ x. record j { interruptible = x }) i (λ x. h) e
plain-value-lacks PlainJobKeyword.Variables v j i h e = sets JobLacks (variables_of v) (λ x. record j { variables = x }) i (λ x. h) e

job-value-lacks : (k : JobKeyword) (v : Value) (j i : Job) → JobLacks j → job.job_value k v j refused ≡ Ok i → JobLacks i
job-value-lacks JobKeyword.Rules v j i h e =
    let b = bound (rules_of v refused) (λ x. Ok (record j { rules = Some x })) i e in
    subst JobLacks (same-ok (record j { rules = Some b.value }) i b.next) (rules-lack v b.value b.first)
job-value-lacks (JobKeyword.Plain k) v j i h e = plain-value-lacks k v j i h e

job-entry-lacks : (m : Text × Value) (j i : Job) → JobLacks j → job_entry refused m j ≡ Ok i → JobLacks i
job-entry-lacks m j i h e =
    let b = bound (keyword_of job_keywords job_left_out m.0) (λ k. job.job_value k m.1 j refused) i e in
    job-value-lacks b.value m.1 j i h b.next

-- ---- files
abbrev JobsLack : FileSaid → Type 0
JobsLack f = Each JobLacks f.jobs

job-of-lacks : (before : ℕ) (name : Text) (v : Value) (j : Job) → job_of before name v refused ≡ Ok j → JobLacks j
job-of-lacks before name v j e =
    let a = bound (map_of v) (λ ms. demand (nat_lt before MAX_JOBS) K11 (demand (is_name name) K16 (job_from refused name ms))) j e in
    let b = demanded (nat_lt before MAX_JOBS) K11 (demand (is_name name) K16 (job_from refused name a.value)) j a.next in
    let c = demanded (is_name name) K16 (job_from refused name a.value) j b.1 in
    entries-read JobLacks (λ before. job_entry refused) (λ before. job-entry-lacks) 0 (blank_job name) a.value j tt c.1

file-job-lacks : (name : Text) (v : Value) (f g : FileSaid) → JobsLack f → job_value name v f refused ≡ Ok g → JobsLack g
file-job-lacks name v f g h e =
    let b = bound (job_of (length f.jobs) name v refused) (λ j. Ok (with_job f j)) g e in
    let one = job-of-lacks (length f.jobs) name v b.value b.first in
    subst JobsLack (same-ok (with_job f b.value) g b.next) (each-append JobLacks f.jobs (b.value ∷ []) h (one, tt))

other-lacks : (o : Option Text) (key : Text) (v : Value) (f g : FileSaid) → JobsLack f → other_value o key v f refused ≡ Ok g → JobsLack g
other-lacks (Some name) key v f g h e = absurd cc
other-lacks None key v f g h e = by-test (is_hidden key) e
  where
    by-test : (b : Bool) → cond b (Ok f) (job_value key v f refused) ≡ Ok g → JobsLack g
    by-test true e = subst JobsLack (same-ok f g e) h
    by-test false e = file-job-lacks key v f g h e

keyword-lacks : (k : FileKeyword) (v : Value) (f g : FileSaid) → JobsLack f → keyword_value k v f ≡ Ok g → JobsLack g
keyword-lacks FileKeyword.Stages v f g h e = sets JobsLack (stages_of v) (λ x. record f { stages = Some x }) g (λ x. h) e
keyword-lacks FileKeyword.Variables v f g h e = sets JobsLack (variables_of v) (λ x. record f { variables = x }) g (λ x. h) e

file-value-lacks : (o : Option FileKeyword) (key : Text) (v : Value) (f g : FileSaid) → JobsLack f → file_value o key v f refused ≡ Ok g → JobsLack g
file-value-lacks (Some k) key v f g h e = keyword-lacks k v f g h e
file-value-lacks None key v f g h e = other-lacks (word_in file_left_out key) key v f g h e

file-entry-lacks : (m : Text × Value) (f g : FileSaid) → JobsLack f → file_entry refused m f ≡ Ok g → JobsLack g
file-entry-lacks m f g h e = file-value-lacks (meaning_of file_keywords m.0) m.0 m.1 f g h e

abbrev ConfigLacks : config.Config → Type 0
ConfigLacks = ConfigLacksPatterns

judged-lacks : (ms : List (Text × Value)) (f : FileSaid) (c : config.Config) → JobsLack f → judged ms (config_of f) ≡ Ok c → ConfigLacks c
judged-lacks ms f c h e =
    let k = config_of f in
    let a = jobs-judged ms k.stages k.jobs (demand (not (is_nil k.jobs)) K15 (Ok k)) c e in
    let b = demanded (not (is_nil k.jobs)) K15 (Ok k) c a.1 in
    subst ConfigLacks (same-ok k c b.1) h

lacks : (v : Value) (c : config.Config) → meaning refused v ≡ Ok c → ConfigLacks c
lacks v c e =
    let a = demanded (is_map v) K1 (map_of v >>= λ ms. file_config ms refused) c (read-ok (reading refused v) c e) in
    let b = bound (map_of v) (λ ms. file_config ms refused) c a.1 in
    let d = bound (file_from b.value refused) (λ f. judged b.value (config_of f)) c b.next in
    judged-lacks b.value d.value c (entries-read JobsLack (λ before. file_entry refused) (λ before. file-entry-lacks) 0 blank_file b.value d.value tt d.first) d.next

-- where each of a list has no part of another, that is empty
pub none-of : {A B C : Type 0} (view : A → B) (P : B → Type 0) (part : A → List C) → ((x : A) → P (view x) → part x ≡ []) → (xs : List A) → Each P (map view xs) → flat_map part xs ≡ []
none-of view P part none [] h = refl
none-of view P part none (x ∷ xs) h = ap₂ (λ ys zs. ys ++ zs) (none x h.0) (none-of view P part none xs h.1)

-- a tree that may mean a configuration with a pattern may be refused for it
pub none-or-refused : (v : Value) (c : config.Config) → Means v (Ok c) → ConfigLacksPatterns c ⊎ Means v (Err (K13 X8))
none-or-refused v c (p, is) = by-readings (alike v p) (alike v refused)
  where
    by-readings : AlikeIn v p → AlikeIn v refused → ConfigLacksPatterns c ⊎ Means v (Err (K13 X8))
    by-readings h (inr (has, e, same)) = inr (refused, e)
    by-readings (inl e) (inl f) = inl (lacks v c (f ∙ sym e ∙ is))
    by-readings (inr (has, e, none)) (inl f) = inr (refused, none)
