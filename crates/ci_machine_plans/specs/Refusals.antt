-- What is to be made is made unless something refuses it.
use Rattle.std.specs.Prelude.{ℕ, not, List, length, if◌then◌else◌, nat_lt, Option, Some, None}
use Rattle.ci_machine_steps.specs.Prelude.{is_name, MAX_NUMBER, M2, M15, K, Detail, Project, NewRunner, Plan, refused, faulted, are_names, lacks_project}
use Rattle.ci_config.specs.declared.limits.TheConstants.{MAX_TAGS}
use Rattle.ci_machine_plans.specs.declared.replies.Refusal.{Refusal}
use Rattle.ci_machine_plans.specs.declared.replies.Refusal.TheVariants.{Code, Fault}

-- the plan that refuses it
abbrev pub unmade : Refusal → Plan
unmade (Code code) = refused code
unmade (Fault code) = faulted (Detail.Code code)

-- this plan, unless something refuses it
abbrev pub unless : Option Refusal → Plan → Plan
unless None made = made
unless (Some refusal) made = unmade refusal

-- this plan of a runner with this next number, unless something refuses it: the project that it is to be of, if it is to be of one and that
-- is there
abbrev pub of_runner : NewRunner → Option Project → ℕ → Plan → Plan
of_runner new project next made =
    if nat_lt MAX_TAGS (length new.tags) then faulted (Detail.Code (K 11))
    else if not (are_names new) then faulted (Detail.Code (K 16))
    else if lacks_project new.project project then refused M2
    else if nat_lt MAX_NUMBER next then refused M15
    else made

-- this plan of a record with a name and this next number, unless one of the two refuses it
abbrev pub named : List ℕ → ℕ → Plan → Plan
named name next made =
    if not (is_name name) then faulted (Detail.Code (K 16))
    else if nat_lt MAX_NUMBER next then refused M15
    else made
