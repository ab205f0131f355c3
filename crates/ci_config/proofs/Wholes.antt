-- What a configuration has: jobs that can run, and names that are names.
use Rattle.std.proofs.Common.{◌≡◌, ℕ, suc, ◌<◌, ◌≤◌, Bool, true, false, cond, not, List, [], ◌∷◌, ◌++◌, Option, Some, None, Result, Ok, Err, IfSome, length, refl, ap, subst, arith}
use Rattle.std.proofs.Common.{length-append, nat_lt, filter, unwrap_or}
use Rattle.std.proofs.lemmas.Bool.Decides.{nat_tests}
use Rattle.ci_config.specs.Prelude.{is_name, Variables, is_variable_name, meaning_of, word_in, Value, allow_failure_of, Need, Rule, Job, Config, Patterns, below, condition_of}
use Rattle.ci_config.specs.Prelude.{Fault, Placed, K1, K4, K5, K6, K7, K11, K12, K15, K16, FileSaid, is_among, stage_in, stages_of, is_hidden, job_of, with_job, job_value}
use Rattle.ci_config.specs.Prelude.{other_value, keyword_value, file_value, file_entry, blank_file, file_from, script_of, plain_job_value, job_entry, blank_job, job_from, Each}
use Rattle.ci_config.specs.Prelude.{IsName, AreNamed, CanRun, HasNames, IsWhole, post, is_inner, default_stages, all_stages, config_of, is_nil, index_of, jobs_judged, judged}
use Rattle.ci_config.specs.Prelude.{file_config, reading, unplaced, meaning, NeedSaid, need_value, need_entry, need_said, blank_need, need_from, need_of, needs_of, ◌>>=◌, within}
use Rattle.ci_config.specs.Prelude.{demand, demand_at, or_fault, each, entries, keyword_of, retry_of, plain_rule_value, rule_value, rule_entry, blank_rule, rule_from, rule_of}
use Rattle.ci_config.specs.Prelude.{rules_from, rules_of, rule_keywords, rule_left_out, need_keywords, need_left_out, job_keywords, job_left_out, file_keywords, file_left_out}
use Rattle.ci_config.specs.Prelude.{is_text, is_map, text_of, bool_of, list_of, map_of, plain_of, name_of, timeout_of, name_in, names_of, variable_in, variables_of, when_of}
use Rattle.ci_config.specs.Prelude.{rule_when_of, FileKeyword, JobKeyword, NeedKeyword, PlainJobKeyword, PlainRuleKeyword, RuleKeyword, MAX_STAGES, MAX_JOBS, MAX_VARIABLES}
use Rattle.ci_config.specs.Prelude.{MAX_TAGS, MAX_RULES}
use Rattle.ci_config.specs.Config.{Text}
use Rattle.ci_config.specs.Jobs as job

-- ---- what was read without a fault
pub record Bound {A B : Type 0} (m : Result A Placed) (k : A → Result B Placed) (y : B) : Type 0 where
  pub value : A
  pub first : m ≡ Ok value
  pub next : k value ≡ Ok y

pub bound : {A B : Type 0} (m : Result A Placed) (k : A → Result B Placed) (y : B) → (m >>= k) ≡ Ok y → Bound m k y
bound (Ok x) k y e = record { value = x; first = refl; next = e }
bound (Err f) k y e = absurd cc

pub demanded_at : {A : Type 0} (way : List ℕ) (holds : Bool) (f : Fault) (m : Result A Placed) (y : A) → demand_at way holds f m ≡ Ok y → (holds ≡ true) × (m ≡ Ok y)
demanded_at way true f m y e = (refl, e)
demanded_at way false f m y e = absurd cc

pub demanded : {A : Type 0} (holds : Bool) (f : Fault) (m : Result A Placed) (y : A) → demand holds f m ≡ Ok y → (holds ≡ true) × (m ≡ Ok y)
demanded = demanded_at []

-- what is read of an entry
pub from-within : {A : Type 0} (i : ℕ) (m : Result A Placed) (y : A) → within i m ≡ Ok y → m ≡ Ok y
from-within i (Ok x) y e = e
from-within i (Err f) y e = absurd cc

there : {A : Type 0} (o : Option A) (f : Fault) (x : A) → or_fault o f ≡ Ok x → o ≡ Some x
there {A = A} None f x e = absurd cc
there {A = A} (Some y) f x e = let same : y ≡ x = cc in ap (λ z. just z) same
  where
    just : A → Option A
    just z = Some z

pub same-ok : {A : Type 0} (x y : A) → ◌≡◌ {A = Result A Placed} (Ok x) (Ok y) → x ≡ y
same-ok x y e = cc

-- ---- lists and maps
pub each-append : {A : Type 0} (P : A → Type 0) (xs ys : List A) → Each P xs → Each P ys → Each P (xs ++ ys)
each-append P [] ys h g = g
each-append P (x ∷ xs) ys h g = (h.0, each-append P xs ys h.1 g)

each-filter : {A : Type 0} (P : A → Type 0) (keep : A → Bool) (xs : List A) → Each P xs → Each P (filter keep xs)
each-filter P keep [] h = tt
each-filter {A = A} P keep (x ∷ xs) h = by-test (keep x) (each-filter P keep xs h.1)
  where
    by-test : (b : Bool) → Each P (filter keep xs) → Each P (cond b (x ∷ filter keep xs) (filter keep xs))
    by-test true g = (h.0, g)
    by-test false g = g

pub each-read : {A B : Type 0} (P : B → Type 0) (read : List B → A → Result B Placed) → ((done : List B) (x : A) (y : B) → read done x ≡ Ok y → P y)
    → (done : List B) (xs : List A) (ys : List B) → Each P done → each read done xs ≡ Ok ys → Each P ys
each-read P read good done [] ys h e = subst (Each P) (same-ok done ys e) h
each-read P read good done (x ∷ xs) ys h e =
    let b = bound (within (length done) (read done x)) (λ y. each read (done ++ y ∷ []) xs) ys e in
    let one = from-within (length done) (read done x) b.value b.first in
    each-read P read good (done ++ b.value ∷ []) xs ys (each-append P done (b.value ∷ []) h (good done x b.value one, tt)) b.next

pub entries-read : {A S : Type 0} (P : S → Type 0) (set : ℕ → A → S → Result S Placed) → ((i : ℕ) (x : A) (s t : S) → P s → set i x s ≡ Ok t → P t)
    → (i : ℕ) (s : S) (xs : List A) (t : S) → P s → entries set i s xs ≡ Ok t → P t
entries-read P set keeps i s [] t h e = subst P (same-ok s t e) h
entries-read P set keeps i s (x ∷ xs) t h e =
    let b = bound (within i (set i x s)) (λ next. entries set (suc i) next xs) t e in
    entries-read P set keeps (suc i) b.value xs t (keeps i x s b.value h (from-within i (set i x s) b.value b.first)) b.next

-- ---- values
name-read : (v : Value) (name : Text) → name_of v ≡ Ok name → IsName name
name-read v name e =
    let b = bound (text_of v) (λ bs. demand (is_name bs) K16 (Ok bs)) name e in
    let d = demanded (is_name b.value) K16 (Ok b.value) name b.next in
    subst IsName (same-ok b.value name d.1) d.0

name-in-read : (limit : ℕ) (done : List Text) (v : Value) (name : Text) → name_in limit done v ≡ Ok name → IsName name
name-in-read limit done v name e =
    let b = bound (text_of v) (λ bs. demand (nat_lt (length done) limit) K11 (demand (is_name bs) K16 (Ok bs))) name e in
    let c = demanded (nat_lt (length done) limit) K11 (demand (is_name b.value) K16 (Ok b.value)) name b.next in
    let d = demanded (is_name b.value) K16 (Ok b.value) name c.1 in
    subst IsName (same-ok b.value name d.1) d.0

names-read : (limit : ℕ) (v : Value) (names : List Text) → names_of limit v ≡ Ok names → Each IsName names
names-read limit v names e =
    let b = bound (list_of v) (λ vs. each (name_in limit) [] vs) names e in
    each-read IsName (name_in limit) (name-in-read limit) [] b.value names tt b.next

abbrev IsNamed : Text × Text → Type 0
IsNamed m = is_variable_name m.0 ≡ true

variable-read : (done : Variables) (m : Text × Value) (pair : Text × Text) → variable_in done m ≡ Ok pair → IsNamed pair
variable-read done m pair e =
    let b = bound (plain_of m.1) (λ value. demand (nat_lt (length done) MAX_VARIABLES) K11 (demand (is_variable_name m.0) K12 (Ok (m.0, value)))) pair e in
    let c = demanded (nat_lt (length done) MAX_VARIABLES) K11 (demand (is_variable_name m.0) K12 (Ok (m.0, b.value))) pair b.next in
    let d = demanded (is_variable_name m.0) K12 (Ok (m.0, b.value)) pair c.1 in
    subst IsNamed (same-ok (m.0, b.value) pair d.1) d.0

variables-read : (v : Value) (vs : Variables) → variables_of v ≡ Ok vs → AreNamed vs
variables-read v vs e =
    let b = bound (map_of v) (λ ms. each variable_in [] ms) vs e in
    each-read IsNamed variable_in variable-read [] b.value vs tt b.next

-- ---- needs
abbrev NeedNamed : NeedSaid → Type 0
NeedNamed n = IfSome n.job IsName

need-value-read : (k : NeedKeyword) (v : Value) (s t : NeedSaid) → NeedNamed s → need_value k v s ≡ Ok t → NeedNamed t
need-value-read NeedKeyword.Job v s t h e =
    let b = bound (name_of v) (λ name. Ok (record s { job = Some name })) t e in
    subst NeedNamed (same-ok (record s { job = Some b.value }) t b.next) (name-read v b.value b.first)
need-value-read NeedKeyword.Optional v s t h e =
    let b = bound (bool_of v) (λ o. Ok (record s { optional = o })) t e in
    subst NeedNamed (same-ok (record s { optional = b.value }) t b.next) h

need-entry-read : (m : Text × Value) (s t : NeedSaid) → NeedNamed s → need_entry m s ≡ Ok t → NeedNamed t
need-entry-read m s t h e =
    let b = bound (keyword_of need_keywords need_left_out m.0) (λ k. need_value k m.1 s) t e in
    need-value-read b.value m.1 s t h b.next

need-said-read : (s : NeedSaid) (n : Need) → NeedNamed s → need_said s ≡ Ok n → IsName n.job
need-said-read s n h e =
    let b = bound (or_fault s.job K4) (λ name. Ok (record { job = name; optional = s.optional })) n e in
    let is : s.job ≡ Some b.value = there s.job K4 b.value b.first in
    let named : IsName b.value = subst (λ o. IfSome o IsName) is h in
    subst (λ n. IsName n.job) (same-ok (record { job = b.value; optional = s.optional }) n b.next) named

need-read : (done : List Need) (v : Value) (n : Need) → need_of done v ≡ Ok n → IsName n.job
need-read done v n e = by-test (is_text v) e
  where
    by-test : (b : Bool) → cond b (name_of v >>= λ name. Ok (record { job = name; optional = false })) (map_of v >>= need_from) ≡ Ok n → IsName n.job
    by-test true e =
        let b = bound (name_of v) (λ name. Ok (record { job = name; optional = false })) n e in
        subst (λ n. IsName n.job) (same-ok (record { job = b.value; optional = false }) n b.next) (name-read v b.value b.first)
    by-test false e =
        let b = bound (map_of v) need_from n e in
        let c = bound (entries (λ before. need_entry) 0 blank_need b.value) need_said n b.next in
        need-said-read c.value n (entries-read NeedNamed (λ before. need_entry) (λ before. need-entry-read) 0 blank_need b.value c.value tt c.first) c.next

needs-read : (v : Value) (ns : List Need) → needs_of v ≡ Ok ns → Each (λ n. IsName n.job) ns
needs-read v ns e =
    let b = bound (list_of v) (λ vs. each need_of [] vs) ns e in
    each-read (λ n. IsName n.job) need_of need-read [] b.value ns tt b.next

-- ---- rules
abbrev RuleNamed : Rule → Type 0
RuleNamed r = AreNamed r.variables

plain-rule-read : (k : PlainRuleKeyword) (v : Value) (r s : Rule) → RuleNamed r → plain_rule_value k v r ≡ Ok s → RuleNamed s
plain-rule-read PlainRuleKeyword.When v r s h e =
    let b = bound (rule_when_of v) (λ w. Ok (record r { when = Some w })) s e in
    subst RuleNamed (same-ok (record r { when = Some b.value }) s b.next) h
plain-rule-read PlainRuleKeyword.AllowFailure v r s h e =
    let b = bound (bool_of v) (λ o. Ok (record r { allow_failure = Some o })) s e in
    subst RuleNamed (same-ok (record r { allow_failure = Some b.value }) s b.next) h
plain-rule-read PlainRuleKeyword.Variables v r s h e =
    let b = bound (variables_of v) (λ vs. Ok (record r { variables = vs })) s e in
    subst RuleNamed (same-ok (record r { variables = b.value }) s b.next) (variables-read v b.value b.first)

rule-value-read : (p : Patterns) (k : RuleKeyword) (v : Value) (r s : Rule) → RuleNamed r → rule_value k v r p ≡ Ok s → RuleNamed s
rule-value-read p RuleKeyword.If v r s h e =
    let a = bound (text_of v) (λ bs. condition_of bs p >>= λ f. Ok (record r { condition = Some f })) s e in
    let b = bound (condition_of a.value p) (λ f. Ok (record r { condition = Some f })) s a.next in
    subst RuleNamed (same-ok (record r { condition = Some b.value }) s b.next) h
rule-value-read p (RuleKeyword.Plain k) v r s h e = plain-rule-read k v r s h e

rule-entry-read : (p : Patterns) (m : Text × Value) (r s : Rule) → RuleNamed r → rule_entry p m r ≡ Ok s → RuleNamed s
rule-entry-read p m r s h e =
    let b = bound (keyword_of rule_keywords rule_left_out m.0) (λ k. rule_value k m.1 r p) s e in
    rule-value-read p b.value m.1 r s h b.next

rule-read : (p : Patterns) (done : List Rule) (v : Value) (r : Rule) → rule_of p done v ≡ Ok r → RuleNamed r
rule-read p done v r e =
    let a = bound (map_of v) (λ ms. demand (nat_lt (length done) MAX_RULES) K11 (rule_from p ms)) r e in
    let b = demanded (nat_lt (length done) MAX_RULES) K11 (rule_from p a.value) r a.next in
    entries-read RuleNamed (λ before. rule_entry (below before p)) (λ before. rule-entry-read (below before p)) 0 blank_rule a.value r tt b.1

rules-read : (p : Patterns) (v : Value) (rs : List Rule) → rules_of v p ≡ Ok rs → Each RuleNamed rs
rules-read p v rs e =
    let b = bound (list_of v) (rules_from p) rs e in
    each-read RuleNamed (λ before. rule_of (below (length before) p) before) (λ done. rule-read (below (length done) p) done) [] b.value rs tt b.next

-- ---- jobs
plain-value-read : (k : PlainJobKeyword) (v : Value) (j i : Job) → HasNames j → plain_job_value k v j ≡ Ok i → HasNames i
plain-value-read PlainJobKeyword.Script v j i h e =
    let b = bound (script_of v) (λ x. Ok (record j { script = x })) i e in
    subst HasNames (same-ok (record j { script = b.value }) i b.next) (record { name = h.name; stage = h.stage; tags = h.tags; resource_group = h.resource_group; needs = h.needs; rules = h.rules; variables = h.variables })
plain-value-read PlainJobKeyword.Stage v j i h e =
    let b = bound (name_of v) (λ x. Ok (record j { stage = x })) i e in
    subst HasNames (same-ok (record j { stage = b.value }) i b.next)
    (record { name = h.name; stage = name-read v b.value b.first; tags = h.tags; resource_group = h.resource_group; needs = h.needs; rules = h.rules; variables = h.variables })
plain-value-read PlainJobKeyword.Needs v j i h e =
    let b = bound (needs_of v) (λ x. Ok (record j { needs = Some x })) i e in
    subst HasNames (same-ok (record j { needs = Some b.value }) i b.next)
    (record { name = h.name; stage = h.stage; tags = h.tags; resource_group = h.resource_group; needs = needs-read v b.value b.first; rules = h.rules; variables = h.variables })
plain-value-read PlainJobKeyword.When v j i h e =
    let b = bound (when_of v) (λ x. Ok (record j { when = Some x })) i e in
    subst HasNames (same-ok (record j { when = Some b.value }) i b.next) (record { name = h.name; stage = h.stage; tags = h.tags; resource_group = h.resource_group; needs = h.needs; rules = h.rules; variables = h.variables })
plain-value-read PlainJobKeyword.AllowFailure v j i h e =
    let b = bound (allow_failure_of v) (λ x. Ok (record j { allow_failure = Some x })) i e in
    subst HasNames (same-ok (record j { allow_failure = Some b.value }) i b.next)
    (record { name = h.name; stage = h.stage; tags = h.tags; resource_group = h.resource_group; needs = h.needs; rules = h.rules; variables = h.variables })
plain-value-read PlainJobKeyword.Retry v j i h e =
    let b = bound (retry_of v) (λ x. Ok (record j { retry = Some x })) i e in
    subst HasNames (same-ok (record j { retry = Some b.value }) i b.next) (record { name = h.name; stage = h.stage; tags = h.tags; resource_group = h.resource_group; needs = h.needs; rules = h.rules; variables = h.variables })
plain-value-read PlainJobKeyword.Tags v j i h e =
    let b = bound (names_of MAX_TAGS v) (λ x. Ok (record j { tags = x })) i e in
    subst HasNames (same-ok (record j { tags = b.value }) i b.next)
    (record { name = h.name; stage = h.stage; tags = names-read MAX_TAGS v b.value b.first; resource_group = h.resource_group; needs = h.needs; rules = h.rules; variables = h.variables })
plain-value-read PlainJobKeyword.Timeout v j i h e =
    let b = bound (timeout_of v) (λ x. Ok (record j { timeout = Some x })) i e in
    subst HasNames (same-ok (record j { timeout = Some b.value }) i b.next) (record { name = h.name; stage = h.stage; tags = h.tags; resource_group = h.resource_group; needs = h.needs; rules = h.rules; variables = h.variables })
plain-value-read PlainJobKeyword.ResourceGroup v j i h e =
    let b = bound (name_of v) (λ x. Ok (record j { resource_group = Some x })) i e in
    subst HasNames (same-ok (record j { resource_group = Some b.value }) i b.next)
    (record { name = h.name; stage = h.stage; tags = h.tags; resource_group = name-read v b.value b.first; needs = h.needs; rules = h.rules; variables = h.variables })
plain-value-read PlainJobKeyword.Interruptible v j i h e =
    let b = bound (bool_of v) (λ x. Ok (record j { interruptible = x })) i e in
    subst HasNames (same-ok (record j { interruptible = b.value }) i b.next) (record { name = h.name; stage = h.stage; tags = h.tags; resource_group = h.resource_group; needs = h.needs; rules = h.rules; variables = h.variables })
plain-value-read PlainJobKeyword.Variables v j i h e =
    let b = bound (variables_of v) (λ x. Ok (record j { variables = x })) i e in
    subst HasNames (same-ok (record j { variables = b.value }) i b.next)
    (record { name = h.name; stage = h.stage; tags = h.tags; resource_group = h.resource_group; needs = h.needs; rules = h.rules; variables = variables-read v b.value b.first })

job-value-read : (p : Patterns) (k : JobKeyword) (v : Value) (j i : Job) → HasNames j → job.job_value k v j p ≡ Ok i → HasNames i
job-value-read p JobKeyword.Rules v j i h e =
    let b = bound (rules_of v p) (λ x. Ok (record j { rules = Some x })) i e in
    subst HasNames (same-ok (record j { rules = Some b.value }) i b.next)
    (record { name = h.name; stage = h.stage; tags = h.tags; resource_group = h.resource_group; needs = h.needs; rules = rules-read p v b.value b.first; variables = h.variables })
job-value-read p (JobKeyword.Plain k) v j i h e = plain-value-read k v j i h e

job-entry-read : (p : Patterns) (m : Text × Value) (j i : Job) → HasNames j → job_entry p m j ≡ Ok i → HasNames i
job-entry-read p m j i h e =
    let b = bound (keyword_of job_keywords job_left_out m.0) (λ k. job.job_value k m.1 j p) i e in
    job-value-read p b.value m.1 j i h b.next

job-read : (p : Patterns) (name : Text) (ms : List (Text × Value)) (j : Job) → IsName name → job_from p name ms ≡ Ok j → HasNames j
job-read p name ms j named e =
    entries-read HasNames (λ before. job_entry (below before p)) (λ before. job-entry-read (below before p)) 0 (blank_job name) ms j (record { name = named; stage = refl; tags = tt; resource_group = tt; needs = tt; rules = tt; variables = tt }) e

-- ---- files
pub record FileNamed (f : FileSaid) : Type 0 where
  pub stages : IfSome f.stages (Each IsName)
  pub variables : AreNamed f.variables
  pub jobs : Each HasNames f.jobs
  pub few : length f.jobs ≤ 200

stage-read : (done : List Text) (v : Value) (name : Text) → stage_in done v ≡ Ok name → IsName name
stage-read done v name e =
    let a = bound (text_of v) (λ bs. demand (not (is_among done bs)) K7 (demand (nat_lt (length done) MAX_STAGES) K11 (demand (is_name bs) K16 (Ok bs)))) name e in
    let b = demanded (not (is_among done a.value)) K7 (demand (nat_lt (length done) MAX_STAGES) K11 (demand (is_name a.value) K16 (Ok a.value))) name a.next in
    let c = demanded (nat_lt (length done) MAX_STAGES) K11 (demand (is_name a.value) K16 (Ok a.value)) name b.1 in
    let d = demanded (is_name a.value) K16 (Ok a.value) name c.1 in
    subst IsName (same-ok a.value name d.1) d.0

stages-read : (v : Value) (names : List Text) → stages_of v ≡ Ok names → Each IsName names
stages-read v names e =
    let b = bound (list_of v) (λ vs. each stage_in [] vs) names e in
    each-read IsName stage_in stage-read [] b.value names tt b.next

job-of-read : (p : Patterns) (before : ℕ) (name : Text) (v : Value) (j : Job) → job_of before name v p ≡ Ok j → (before < 200) × HasNames j
job-of-read p before name v j e =
    let a = bound (map_of v) (λ ms. demand (nat_lt before MAX_JOBS) K11 (demand (is_name name) K16 (job_from p name ms))) j e in
    let b = demanded (nat_lt before MAX_JOBS) K11 (demand (is_name name) K16 (job_from p name a.value)) j a.next in
    let c = demanded (is_name name) K16 (job_from p name a.value) j b.1 in
    let few : nat_lt before 200 ≡ true = b.0 in
    (grind (arith, nat_tests), job-read p name a.value j c.0 c.1)

one-more : (f : FileSaid) (j : Job) → FileNamed f → length f.jobs < 200 → HasNames j → FileNamed (with_job f j)
one-more f j h few named =
    let n = length-append f.jobs (j ∷ []) in
    record { stages = h.stages; variables = h.variables; jobs = each-append HasNames f.jobs (j ∷ []) h.jobs (named, tt); few = omega (arith, n, few) }

file-job-read : (p : Patterns) (name : Text) (v : Value) (f g : FileSaid) → FileNamed f → job_value name v f p ≡ Ok g → FileNamed g
file-job-read p name v f g h e =
    let b = bound (job_of (length f.jobs) name v p) (λ j. Ok (with_job f j)) g e in
    let j = job-of-read p (length f.jobs) name v b.value b.first in
    subst FileNamed (same-ok (with_job f b.value) g b.next) (one-more f b.value h j.0 j.1)

other-read : (p : Patterns) (o : Option Text) (key : Text) (v : Value) (f g : FileSaid) → FileNamed f → other_value o key v f p ≡ Ok g → FileNamed g
other-read p (Some name) key v f g h e = absurd cc
other-read p None key v f g h e = by-test (is_hidden key) e
  where
    by-test : (b : Bool) → cond b (Ok f) (job_value key v f p) ≡ Ok g → FileNamed g
    by-test true e = subst FileNamed (same-ok f g e) h
    by-test false e = file-job-read p key v f g h e

keyword-read : (k : FileKeyword) (v : Value) (f g : FileSaid) → FileNamed f → keyword_value k v f ≡ Ok g → FileNamed g
keyword-read FileKeyword.Stages v f g h e =
    let b = bound (stages_of v) (λ x. Ok (record f { stages = Some x })) g e in
    subst FileNamed (same-ok (record f { stages = Some b.value }) g b.next) (record { stages = stages-read v b.value b.first; variables = h.variables; jobs = h.jobs; few = h.few })
keyword-read FileKeyword.Variables v f g h e =
    let b = bound (variables_of v) (λ x. Ok (record f { variables = x })) g e in
    subst FileNamed (same-ok (record f { variables = b.value }) g b.next) (record { stages = h.stages; variables = variables-read v b.value b.first; jobs = h.jobs; few = h.few })

file-value-read : (p : Patterns) (o : Option FileKeyword) (key : Text) (v : Value) (f g : FileSaid) → FileNamed f → file_value o key v f p ≡ Ok g → FileNamed g
file-value-read p (Some k) key v f g h e = keyword-read k v f g h e
file-value-read p None key v f g h e = other-read p (word_in file_left_out key) key v f g h e

file-entry-read : (p : Patterns) (m : Text × Value) (f g : FileSaid) → FileNamed f → file_entry p m f ≡ Ok g → FileNamed g
file-entry-read p m f g h e = file-value-read p (meaning_of file_keywords m.0) m.0 m.1 f g h e

file-read : (p : Patterns) (ms : List (Text × Value)) (f : FileSaid) → file_from ms p ≡ Ok f → FileNamed f
file-read p ms f e =
    entries-read FileNamed (λ before. file_entry (below before p)) (λ before. file-entry-read (below before p)) 0 blank_file ms f (record { stages = tt; variables = tt; jobs = tt; few = omega arith }) e

-- ---- and then
pub not-true : (b : Bool) → not b ≡ true → b ≡ false
not-true true e = absurd cc
not-true false e = refl

pub jobs-judged : (ms : List (Text × Value)) (stages : List Text) (js : List Job) (next : Result Config Placed) (c : Config)
    → jobs_judged ms stages js next ≡ Ok c → Each (CanRun stages) js × (next ≡ Ok c)
jobs-judged ms stages [] next c e = (tt, e)
jobs-judged ms stages (j ∷ js) next c e =
    let way = index_of ms j.name ∷ [] in
    let a = demanded_at way (not (is_nil j.script)) K5 (demand_at way (is_among stages j.stage) K6 (jobs_judged ms stages js next)) c e in
    let b = demanded_at way (is_among stages j.stage) K6 (jobs_judged ms stages js next) c a.1 in
    let d = jobs-judged ms stages js next c b.1 in
    ((record { script = not-true (is_nil j.script) a.0; stage = b.0 }, d.0), d.1)

listed-named : (o : Option (List Text)) → IfSome o (Each IsName) → Each IsName (unwrap_or o default_stages)
listed-named None h = (refl, (refl, (refl, tt)))
listed-named (Some names) h = h

stages-named : (names : List Text) → Each IsName names → Each IsName (all_stages names)
stages-named names h = (refl, each-append IsName (filter is_inner names) (post ∷ []) (each-filter IsName is_inner names h) (refl, tt))

config-whole : (ms : List (Text × Value)) (f : FileSaid) (c : Config) → FileNamed f → judged ms (config_of f) ≡ Ok c → IsWhole c
config-whole ms f c h e =
    let k = config_of f in
    let a = jobs-judged ms k.stages k.jobs (demand (not (is_nil k.jobs)) K15 (Ok k)) c e in
    let b = demanded (not (is_nil k.jobs)) K15 (Ok k) c a.1 in
    subst IsWhole (same-ok k c b.1) (record {
      some = not-true (is_nil f.jobs) b.0;
      few = h.few;
      can_run = a.0;
      names = h.jobs;
      stages = stages-named (unwrap_or f.stages default_stages) (listed-named f.stages h.stages);
      variables = h.variables;
    })

pub read-ok : {A : Type 0} (r : Result A Placed) (x : A) → unplaced r ≡ Ok x → r ≡ Ok x
read-ok {A = A} (Ok y) x e = let same : y ≡ x = cc in ap okay same
  where
    okay : A → Result A Placed
    okay z = Ok z
read-ok (Err f) x e = absurd cc

pub wholes : (p : Patterns) (v : Value) (c : Config) → meaning p v ≡ Ok c → IsWhole c
wholes p v c e =
    let a = demanded (is_map v) K1 (map_of v >>= λ ms. file_config ms p) c (read-ok (reading p v) c e) in
    let b = bound (map_of v) (λ ms. file_config ms p) c a.1 in
    let d = bound (file_from b.value p) (λ f. judged b.value (config_of f)) c b.next in
    config-whole b.value d.value c (file-read p b.value d.value d.first) d.next
