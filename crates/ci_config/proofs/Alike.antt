-- With any choice of the patterns that are built a tree is read as with each, or X8 comes of a pattern.
use Rattle.std.proofs.Common.{◌≡◌, ◌⊎◌, inl, inr, ℕ, suc, Bool, true, false, cond, List, [], ◌∷◌, ◌++◌, Option, Some, None, Result, Ok, Err, not, ◌||◌, length, refl, sym, ◌∙◌, ap}
use Rattle.std.proofs.Common.{subst, nat_lt}
use Rattle.ci_config.specs.Prelude.{is_name, meaning_of, word_in, sequence, mapping, Value, null, boolean, number, text, node, Members, no_members, member, ExprCode, X8, Formula}
use Rattle.ci_config.specs.Prelude.{has_pattern, Rule, Job, Config, expression_of, Patterns, built, refused, below, are_built, condition_by, condition_of, Fault, K1, K11, K13, K16}
use Rattle.ci_config.specs.Prelude.{Placed, FileSaid, job_of, with_job, job_value, is_hidden, other_value, file_value, file_entry, blank_file, file_from, rules_value, job_entry}
use Rattle.ci_config.specs.Prelude.{blank_job, job_from, HasNoPattern, LacksPatterns, AllLackPatterns, Each, Means, judged, config_of, file_config, reading, unplaced, meaning}
use Rattle.ci_config.specs.Prelude.{◌>>=◌, fails_at, within, demand, each, entries, keyword_of, condition_value, rule_value, rule_entry, blank_rule, rule_from, rule_of, rules_from}
use Rattle.ci_config.specs.Prelude.{rules_of, rule_keywords, rule_left_out, job_keywords, job_left_out, file_keywords, file_left_out, items_in, pairs_in, text_of, map_of, list_of}
use Rattle.ci_config.specs.Prelude.{is_map, FileKeyword, JobKeyword, RuleKeyword, MAX_RULES, MAX_JOBS}
use Rattle.ci_config.specs.Config.{Text}
use Rattle.ci_config.specs.Jobs as job

-- With any choice of the patterns that are built it is read as with each; or it is X8, and with none built too, and then it
-- isn't so that there is no pattern.
abbrev pub Refuses : {A : Type 0} → Result A Placed → Type 0
Refuses r = (way : List ℕ) × (r ≡ fails_at way (K13 X8))

abbrev pub ReadsBy : {A : Type 0} → Type 0 → (Patterns → Result A Placed) → Patterns → Type 0
ReadsBy Lacks m p = (m p ≡ m built) ⊎ ((Lacks → ⊥) × Refuses (m p) × Refuses (m refused))

abbrev pub Alike : {A : Type 0} → Type 0 → (Patterns → Result A Placed) → Type 0
Alike Lacks m = (p : Patterns) → ReadsBy Lacks m p

weaken : {A : Type 0} {P Q : Type 0} (m : Patterns → Result A Placed) → (Q → P) → Alike P m → Alike Q m
weaken {P = P} {Q = Q} m f h p = either (h p)
  where
    either : ReadsBy P m p → ReadsBy Q m p
    either (inl e) = inl e
    either (inr (some, e, g)) = inr (λ q. some (f q), e, g)

alike-then : {A B : Type 0} {P : Type 0} (m : Patterns → Result A Placed) (k : A → Patterns → Result B Placed) → Alike P m → ((x : A) → Alike P (k x)) → Alike P (λ p. m p >>= λ x. k x p)
alike-then {A = A} {P = P} m k h next p = either (h p)
  where
    none : (x : A) → m built ≡ Ok x → Refuses (k x refused) → ReadsBy P m refused → Refuses (m refused >>= λ x. k x refused)
    none x is (way, g) (inl e) = (way, ap (λ r. r >>= λ y. k y refused) (e ∙ is) ∙ g)
    none x is g (inr (some, (way, e), same)) = (way, ap (λ r. r >>= λ y. k y refused) e)

    onward : (x : A) → m p ≡ m built → m built ≡ Ok x → ReadsBy P (k x) p → ReadsBy P (λ p. m p >>= λ x. k x p) p
    onward x e is (inl g) = inl (ap (λ r. r >>= λ y. k y p) (e ∙ is) ∙ g ∙ sym (ap (λ r. r >>= λ y. k y built) is))
    onward x e is (inr (some, (way, g), n)) = inr (some, (way, ap (λ r. r >>= λ y. k y p) (e ∙ is) ∙ g), none x is n (h refused))

    by-value : m p ≡ m built → (r : Result A Placed) → m built ≡ r → ReadsBy P (λ p. m p >>= λ x. k x p) p
    by-value e (Err f) is = inl (ap (λ r. r >>= λ y. k y p) (e ∙ is) ∙ sym (ap (λ r. r >>= λ y. k y built) is))
    by-value e (Ok x) is = onward x e is (next x p)

    either : ReadsBy P m p → ReadsBy P (λ p. m p >>= λ x. k x p) p
    either (inl e) = by-value e (m built) refl
    either (inr (some, (way, e), (other, g))) = inr (some, (way, ap (λ r. r >>= λ y. k y p) e), (other, ap (λ r. r >>= λ y. k y refused) g))

alike-read : {A B : Type 0} {P : Type 0} (m : Result A Placed) (k : A → Patterns → Result B Placed) → ((x : A) → m ≡ Ok x → Alike P (k x)) → Alike P (λ p. m >>= λ x. k x p)
alike-read (Ok x) k h = h x refl
alike-read (Err f) k h = λ p. inl refl

alike-demand : {A : Type 0} {P : Type 0} (holds : Bool) (f : Fault) (m : Patterns → Result A Placed) → Alike P m → Alike P (λ p. demand holds f (m p))
alike-demand true f m h = h
alike-demand false f m h = λ p. inl refl

-- an entry, with the patterns below it
alike-within : {A : Type 0} {P : Type 0} (i : ℕ) (m : Patterns → Result A Placed) → Alike P m → Alike P (λ p. within i (m (below i p)))
alike-within {P = P} i m h p = either (h (below i p))
  where
    either : ReadsBy P m (below i p) → ReadsBy P (λ p. within i (m (below i p))) p
    either (inl e) = inl (ap (within i) e)
    either (inr (some, (way, e), (other, g))) = inr (some, (i ∷ way, ap (within i) e), (i ∷ other, ap (within i) g))

alike-each : {A B : Type 0} (P : A → Type 0) (read : Patterns → List B → A → Result B Placed) → ((done : List B) (x : A) → Alike (P x) (λ p. read p done x))
    → (done : List B) (xs : List A) → Alike (Each P xs) (λ p. each (λ before. read (below (length before) p) before) done xs)
alike-each P read h done [] = λ p. inl refl
alike-each P read h done (x ∷ xs) =
    let one : Patterns → _ = λ p. within (length done) (read (below (length done) p) done x) in
    let rest : _ → Patterns → _ = λ y p. each (λ before. read (below (length before) p) before) (done ++ y ∷ []) xs in
    alike-then one rest (weaken one (λ q. q.0) (alike-within (length done) (λ p. read p done x) (h done x))) (λ y. weaken (rest y) (λ q. q.1) (alike-each P read h (done ++ y ∷ []) xs))

alike-entries : {A S : Type 0} (P : A → Type 0) (set : Patterns → A → S → Result S Placed) → ((x : A) (s : S) → Alike (P x) (λ p. set p x s))
    → (i : ℕ) (s : S) (xs : List A) → Alike (Each P xs) (λ p. entries (λ before. set (below before p)) i s xs)
alike-entries P set h i s [] = λ p. inl refl
alike-entries P set h i s (x ∷ xs) =
    let one : Patterns → _ = λ p. within i (set (below i p) x s) in
    let rest : _ → Patterns → _ = λ next p. entries (λ before. set (below before p)) (suc i) next xs in
    alike-then one rest (weaken one (λ q. q.0) (alike-within i (λ p. set p x s) (h x s))) (λ next. weaken (rest next) (λ q. q.1) (alike-entries P set h (suc i) next xs))

-- ---- what lies within a tree without a pattern
abbrev pub LackPatterns : List (Text × Value) → Type 0
LackPatterns ms = Each (λ m. LacksPatterns m.1) ms

text-lacks : (v : Value) (bs : Text) → text_of v ≡ Ok bs → LacksPatterns v → HasNoPattern bs
text-lacks null bs e h = absurd cc
text-lacks (boolean b) bs e h = absurd cc
text-lacks (number n) bs e h = absurd cc
text-lacks (text cs) bs e h = let same : cs ≡ bs = cc in subst HasNoPattern same h
text-lacks (node kind ms) bs e h = absurd cc

items-lack : (ms : Members) → AllLackPatterns ms → Each LacksPatterns (items_in ms)
items-lack no_members h = tt
items-lack (member name v ms) h = (h.0, items-lack ms h.1)

pairs-lack : (ms : Members) → AllLackPatterns ms → LackPatterns (pairs_in ms)
pairs-lack no_members h = tt
pairs-lack (member name v ms) h = (h.0, pairs-lack ms h.1)

list-lacks : (v : Value) (vs : List Value) → list_of v ≡ Ok vs → LacksPatterns v → Each LacksPatterns vs
list-lacks null vs e h = absurd cc
list-lacks (boolean b) vs e h = absurd cc
list-lacks (number n) vs e h = absurd cc
list-lacks (text cs) vs e h = absurd cc
list-lacks (node mapping ms) vs e h = absurd cc
list-lacks (node sequence ms) vs e h = let same : items_in ms ≡ vs = cc in subst (Each LacksPatterns) same (items-lack ms h)

map-lacks : (v : Value) (ms : List (Text × Value)) → map_of v ≡ Ok ms → LacksPatterns v → LackPatterns ms
map-lacks null vs e h = absurd cc
map-lacks (boolean b) vs e h = absurd cc
map-lacks (number n) vs e h = absurd cc
map-lacks (text cs) vs e h = absurd cc
map-lacks (node sequence ms) vs e h = absurd cc
map-lacks (node mapping ms) vs e h = let same : pairs_in ms ≡ vs = cc in subst LackPatterns same (pairs-lack ms h)

-- ---- rules
-- a formula, where its patterns are built
abbrev pub taken : Formula → Bool → Result Formula Placed
taken f b = demand b (K13 X8) (Ok f)

-- where none are refused, it is taken
all-built : (p : Patterns) → are_built p ≡ true → (f : Formula) → taken f (are_built p || not (has_pattern f)) ≡ Ok f
all-built p e f = ap (λ b. taken f (b || not (has_pattern f))) e

-- and where they are, so that it has none
pub none-built : (p : Patterns) → are_built p ≡ false → (f : Formula) → taken f (are_built p || not (has_pattern f)) ≡ taken f (not (has_pattern f))
none-built p e f = ap (λ b. taken f (b || not (has_pattern f))) e

alike-condition : (bs : Text) → Alike (HasNoPattern bs) (condition_of bs)
alike-condition bs p = by-value (expression_of bs) refl
  where
    by-pattern : (f : Formula) (b : Bool) → has_pattern f ≡ b → expression_of bs ≡ Ok f → are_built p ≡ false
        → (condition_by p (Ok f) ≡ Ok f) ⊎ ((HasNoPattern bs → ⊥) × Refuses (condition_by p (Ok f)) × Refuses (condition_by refused (Ok f)))
    by-pattern f false has is e = inl (none-built p e f ∙ ap (λ b. taken f (not b)) has)
    by-pattern f true has is e =
        inr (λ none. let no : has_pattern f ≡ false = none f is in absurd cc, ([], none-built p e f ∙ ap (λ b. taken f (not b)) has), ([], ap (λ b. taken f (not b)) has))

    by-test : (f : Formula) (b : Bool) → are_built p ≡ b → expression_of bs ≡ Ok f
        → (condition_by p (Ok f) ≡ Ok f) ⊎ ((HasNoPattern bs → ⊥) × Refuses (condition_by p (Ok f)) × Refuses (condition_by refused (Ok f)))
    by-test f true e is = inl (all-built p e f)
    by-test f false e is = by-pattern f (has_pattern f) refl is e

    by-value : (r : Result Formula ExprCode) → expression_of bs ≡ r
        → (condition_by p r ≡ condition_by built r) ⊎ ((HasNoPattern bs → ⊥) × Refuses (condition_by p r) × Refuses (condition_by refused r))
    by-value (Err x) is = inl refl
    by-value (Ok f) is = by-test f (are_built p) refl is

alike-condition_value : (v : Value) (r : Rule) → Alike (LacksPatterns v) (condition_value v r)
alike-condition_value v r =
    alike-read (text_of v) (λ bs p. condition_of bs p >>= λ f. Ok (record r { condition = Some f }))
    (λ bs e. alike-then (condition_of bs) (λ f p. Ok (record r { condition = Some f })) (weaken (condition_of bs) (text-lacks v bs e) (alike-condition bs)) (λ f p. inl refl))

alike-rule_value : (k : RuleKeyword) (v : Value) (r : Rule) → Alike (LacksPatterns v) (rule_value k v r)
alike-rule_value RuleKeyword.If v r = alike-condition_value v r
alike-rule_value (RuleKeyword.Plain k) v r = λ p. inl refl

pub alike-rule_entry : (m : Text × Value) (r : Rule) → Alike (LacksPatterns m.1) (λ p. rule_entry p m r)
alike-rule_entry m r = alike-read (keyword_of rule_keywords rule_left_out m.0) (λ k. rule_value k m.1 r) (λ k e. alike-rule_value k m.1 r)

alike-rule_from : (ms : List (Text × Value)) → Alike (LackPatterns ms) (λ p. rule_from p ms)
alike-rule_from ms = alike-entries (λ m. LacksPatterns m.1) rule_entry alike-rule_entry 0 blank_rule ms

pub alike-rule_of : (before : List Rule) (v : Value) → Alike (LacksPatterns v) (λ p. rule_of p before v)
alike-rule_of before v =
    alike-read (map_of v) (λ ms p. demand (nat_lt (length before) MAX_RULES) K11 (rule_from p ms))
    (λ ms e. alike-demand (nat_lt (length before) MAX_RULES) K11 (λ p. rule_from p ms) (weaken (λ p. rule_from p ms) (map-lacks v ms e) (alike-rule_from ms)))

alike-rules_of : (v : Value) → Alike (LacksPatterns v) (rules_of v)
alike-rules_of v =
    alike-read (list_of v) (λ vs p. rules_from p vs) (λ vs e. weaken (λ p. rules_from p vs) (list-lacks v vs e) (alike-each LacksPatterns rule_of alike-rule_of [] vs))

-- ---- jobs
alike-rules_value : (v : Value) (j : Job) → Alike (LacksPatterns v) (rules_value v j)
alike-rules_value v j = alike-then (rules_of v) (λ rs p. Ok (record j { rules = Some rs })) (alike-rules_of v) (λ rs p. inl refl)

alike-job_value : (k : JobKeyword) (v : Value) (j : Job) → Alike (LacksPatterns v) (job.job_value k v j)
alike-job_value JobKeyword.Rules v j = alike-rules_value v j
alike-job_value (JobKeyword.Plain k) v j = λ p. inl refl

pub alike-job_entry : (m : Text × Value) (j : Job) → Alike (LacksPatterns m.1) (λ p. job_entry p m j)
alike-job_entry m j = alike-read (keyword_of job_keywords job_left_out m.0) (λ k. job.job_value k m.1 j) (λ k e. alike-job_value k m.1 j)

alike-job_from : (name : Text) (ms : List (Text × Value)) → Alike (LackPatterns ms) (λ p. job_from p name ms)
alike-job_from name ms = alike-entries (λ m. LacksPatterns m.1) job_entry alike-job_entry 0 (blank_job name) ms

-- ---- files
alike-job_of : (before : ℕ) (name : Text) (v : Value) → Alike (LacksPatterns v) (job_of before name v)
alike-job_of before name v =
    alike-read (map_of v) (λ ms p. demand (nat_lt before MAX_JOBS) K11 (demand (is_name name) K16 (job_from p name ms)))
    (λ ms e. alike-demand (nat_lt before MAX_JOBS) K11 (λ p. demand (is_name name) K16 (job_from p name ms))
    (alike-demand (is_name name) K16 (λ p. job_from p name ms) (weaken (λ p. job_from p name ms) (map-lacks v ms e) (alike-job_from name ms))))

alike-file_job : (name : Text) (v : Value) (f : FileSaid) → Alike (LacksPatterns v) (job_value name v f)
alike-file_job name v f = alike-then (job_of (length f.jobs) name v) (λ j p. Ok (with_job f j)) (alike-job_of (length f.jobs) name v) (λ j p. inl refl)

alike-other_value : (o : Option Text) (key : Text) (v : Value) (f : FileSaid) → Alike (LacksPatterns v) (other_value o key v f)
alike-other_value (Some name) key v f = λ p. inl refl
alike-other_value None key v f = by-test (is_hidden key)
  where
    by-test : (b : Bool) → Alike (LacksPatterns v) (λ p. cond b (Ok f) (job_value key v f p))
    by-test true = λ p. inl refl
    by-test false = alike-file_job key v f

alike-file_value : (o : Option FileKeyword) (key : Text) (v : Value) (f : FileSaid) → Alike (LacksPatterns v) (file_value o key v f)
alike-file_value (Some k) key v f = λ p. inl refl
alike-file_value None key v f = alike-other_value (word_in file_left_out key) key v f

pub alike-file_entry : (m : Text × Value) (f : FileSaid) → Alike (LacksPatterns m.1) (λ p. file_entry p m f)
alike-file_entry m f = alike-file_value (meaning_of file_keywords m.0) m.0 m.1 f

pub alike-file_from : (ms : List (Text × Value)) → Alike (LackPatterns ms) (file_from ms)
alike-file_from ms = alike-entries (λ m. LacksPatterns m.1) file_entry alike-file_entry 0 blank_file ms

alike-file_config : (ms : List (Text × Value)) → Alike (LackPatterns ms) (file_config ms)
alike-file_config ms = alike-then (file_from ms) (λ f p. judged ms (config_of f)) (alike-file_from ms) (λ f p. inl refl)

alike-reading : (v : Value) → Alike (LacksPatterns v) (λ p. reading p v)
alike-reading v =
    alike-demand (is_map v) K1 (λ p. map_of v >>= λ ms. file_config ms p)
    (alike-read (map_of v) (λ ms. file_config ms) (λ ms e. weaken (file_config ms) (map-lacks v ms e) (alike-file_config ms)))

-- ---- the answers of a tree, without where a fault is
abbrev pub AlikeIn : Value → Patterns → Type 0
AlikeIn v p = (meaning p v ≡ meaning built v) ⊎ ((LacksPatterns v → ⊥) × (meaning p v ≡ Err (K13 X8)) × (meaning refused v ≡ Err (K13 X8)))

pub alike : (v : Value) (p : Patterns) → AlikeIn v p
alike v p = either (alike-reading v p)
  where
    either : ReadsBy (LacksPatterns v) (λ p. reading p v) p → AlikeIn v p
    either (inl e) = inl (ap unplaced e)
    either (inr (some, (way, e), (other, g))) = inr (some, ap unplaced e, ap unplaced g)

pub one-answer : (v : Value) (r s : Result Config Fault) → Means v r → Means v s → (r ≡ s) ⊎ ((r ≡ Err (K13 X8)) ⊎ (s ≡ Err (K13 X8)))
one-answer v r s (p, a) (q, b) = by-readings (alike v p) (alike v q)
  where
    by-readings : AlikeIn v p → AlikeIn v q → (r ≡ s) ⊎ ((r ≡ Err (K13 X8)) ⊎ (s ≡ Err (K13 X8)))
    by-readings (inl e) (inl f) = inl (sym a ∙ e ∙ sym f ∙ b)
    by-readings (inr (some, e, none)) h = inr (inl (sym a ∙ e))
    by-readings (inl e) (inr (some, f, none)) = inr (inr (sym b ∙ f))

pub once : (v : Value) (r : Result Config Fault) → LacksPatterns v → Means v r → r ≡ meaning built v
once v r none (p, a) = by-reading (alike v p)
  where
    by-reading : AlikeIn v p → r ≡ meaning built v
    by-reading (inl e) = sym a ∙ e
    by-reading (inr (some, e, refuses)) = absurd (some none)
