-- What JSON is read as.
use Rattle.std.proofs.Common.{◌≡◌, ◌∙◌, ◌&&◌, ◌||◌, ℕ, List, [], ◌∷◌, map, filter, Bool, true, false, cond, if◌then◌else◌, Option, Some, None, codes, bytes_eq, refl, sym, ap}
use Rattle.std.specs.List.{list_any}
use Rattle.serde_json.specs.Data.{Data, array, number, string, unsigned}
use Rattle.serde_json.specs.Find.{get}
use Rattle.serde_json.specs.Read.{read}
use Rattle.serde_json.specs.View.{items_of}
use Rattle.ci_machine.specs.Prelude.{Cause, UnknownFailure, ScriptFailure, ApiFailure, StuckOrTimeoutFailure, RunnerSystemFailure, JobExecutionTimeout, Causes, has_cause, When}
use Rattle.ci_machine.specs.Prelude.{OnSuccess, OnFailure, Always, Manual, AllowFailure, No, Yes, ExitCodes}
use Rattle.ci_store_rows.specs.Prelude.{strings, numbers, group_data, allow_data, when_text, cause_text, every_cause, causes_data, is_text}

same_items : (xs ys : List Data) → items_of xs ≡ items_of ys → xs ≡ ys
same_items [] [] h = refl
same_items (x ∷ xs) (y ∷ ys) h =
    let first : x ≡ y = cc in
    let rest : items_of xs ≡ items_of ys = cc in
    λ i. first i ∷ same_items xs ys rest i
same_items xs ys h = cc

same_mapped : {A : Type 0} (f : A → Data) → ((x y : A) → f x ≡ f y → x ≡ y) → (xs ys : List A) → map f xs ≡ map f ys → xs ≡ ys
same_mapped f same [] [] h = refl
same_mapped f same (x ∷ xs) (y ∷ ys) h =
    let first : f x ≡ f y = cc in
    let rest : map f xs ≡ map f ys = cc in
    λ i. same x y first i ∷ same_mapped f same xs ys rest i
same_mapped f same xs ys h = cc

pub same_texts : (xs ys : List (List ℕ)) → array (strings xs) ≡ array (strings ys) → xs ≡ ys
same_texts xs ys h = let inner : strings xs ≡ strings ys = cc in same_mapped string (λ x y e. cc) xs ys (same_items _ _ inner)

pub same_group : (a b : Option (List ℕ)) → group_data a ≡ group_data b → a ≡ b
same_group None None h = refl
same_group (Some x) (Some y) h = cc
same_group a b h = cc

pub same_allow : (a b : AllowFailure) → allow_data a ≡ allow_data b → a ≡ b
same_allow No No h = refl
same_allow Yes Yes h = refl
same_allow (ExitCodes xs) (ExitCodes ys) h = let inner : numbers xs ≡ numbers ys = cc in ap ExitCodes (same_mapped (λ n. number (unsigned n)) (λ x y e. cc) xs ys (same_items _ _ inner))
same_allow a b h = cc

abbrev when_back : List ℕ → When
when_back text = if bytes_eq text (codes "on_success") then OnSuccess else (if bytes_eq text (codes "on_failure") then OnFailure else (if bytes_eq text (codes "always") then Always else Manual))

when_is : (w : When) → when_back (when_text w) ≡ w
when_is OnSuccess = refl
when_is OnFailure = refl
when_is Always = refl
when_is Manual = refl

pub same_when : (a b : When) → string (when_text a) ≡ string (when_text b) → a ≡ b
same_when a b h = let inner : when_text a ≡ when_text b = cc in sym (when_is a) ∙ ap when_back inner ∙ when_is b

-- ---- the causes that a list names

any_named : (q : Cause → Bool) (p : Data → Bool) (cs : List Cause) → list_any p (map string (map cause_text (filter q cs))) ≡ list_any (λ c. q c && p (string (cause_text c))) cs
any_named q p [] = refl
any_named q p (c ∷ cs) =
    elim (q c) as (λ b. list_any p (map string (map cause_text (cond b (c ∷ filter q cs) (filter q cs)))) ≡ ((b && p (string (cause_text c))) || list_any (λ c. q c && p (string (cause_text c))) cs))
    [ true ↦ ap (λ b. p (string (cause_text c)) || b) (any_named q p cs) | false ↦ any_named q p cs ]

skipped : (b rest : Bool) → ((b && false) || rest) ≡ rest
skipped true rest = refl
skipped false rest = refl

decides : (b rest : Bool) → rest ≡ false → ((b && true) || rest) ≡ b
decides true rest none = refl
decides false rest none = none

one_named : (s : Causes) (c : Cause) → list_any (λ x. has_cause s x && is_text (cause_text c) (string (cause_text x))) every_cause ≡ has_cause s c
one_named s UnknownFailure = decides s.unknown_failure _ (skipped s.script_failure _ ∙ skipped s.api_failure _ ∙ skipped s.stuck_or_timeout_failure _ ∙ skipped s.runner_system_failure _ ∙ skipped s.job_execution_timeout _)
one_named s ScriptFailure = skipped s.unknown_failure _ ∙ decides s.script_failure _ (skipped s.api_failure _ ∙ skipped s.stuck_or_timeout_failure _ ∙ skipped s.runner_system_failure _ ∙ skipped s.job_execution_timeout _)
one_named s ApiFailure = skipped s.unknown_failure _ ∙ skipped s.script_failure _ ∙ decides s.api_failure _ (skipped s.stuck_or_timeout_failure _ ∙ skipped s.runner_system_failure _ ∙ skipped s.job_execution_timeout _)
one_named s StuckOrTimeoutFailure = skipped s.unknown_failure _ ∙ skipped s.script_failure _ ∙ skipped s.api_failure _ ∙ decides s.stuck_or_timeout_failure _ (skipped s.runner_system_failure _ ∙ skipped s.job_execution_timeout _)
one_named s RunnerSystemFailure = skipped s.unknown_failure _ ∙ skipped s.script_failure _ ∙ skipped s.api_failure _ ∙ skipped s.stuck_or_timeout_failure _ ∙ decides s.runner_system_failure _ (skipped s.job_execution_timeout _)
one_named s JobExecutionTimeout = skipped s.unknown_failure _ ∙ skipped s.script_failure _ ∙ skipped s.api_failure _ ∙ skipped s.stuck_or_timeout_failure _ ∙ skipped s.runner_system_failure _ ∙ decides s.job_execution_timeout _ refl

-- a cause is in the set whose names these are where its name is one of them
pub named : (s : Causes) (c : Cause) (ds : List Data) → array (items_of ds) ≡ causes_data s → list_any (is_text (cause_text c)) ds ≡ has_cause s c
named s c ds is =
    let inner : items_of ds ≡ items_of (map string (map cause_text (filter (has_cause s) every_cause))) = cc in
    ap (list_any (is_text (cause_text c))) (same_items ds _ inner) ∙ any_named (has_cause s) (is_text (cause_text c)) every_cause ∙ one_named s c

-- ---- members

-- what was found under a name is what stands there
pub member_is : (name : List ℕ) (object given found there : Data) → get name object ≡ Some found → object ≡ given → get name given ≡ Some there → found ≡ there
member_is name object given found there got is has = let e : Some found ≡ Some there = sym got ∙ ap (get name) is ∙ has in cc

-- what is read of one text is the same
pub same_read : (text : List ℕ) (v w : Data) → read text ≡ Some v → read text ≡ Some w → v ≡ w
same_read text v w is reads = let a = sym is ∙ reads in cc
