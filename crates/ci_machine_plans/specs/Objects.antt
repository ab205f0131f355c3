-- Objects of JSON, as far as they are made, and a part of one.
use Rattle.std.specs.Prelude.{◌≡◌, ℕ, false, List, map, codes, Option, Some, None, refl}
use Rattle.serde_json.specs.Data.{Data, Members, array, object, member, no_members, string, number, unsigned}
use Rattle.serde_json.specs.View.{members_view, items_of}
use Rattle.serde_json.specs.Written.{has_float}
use Rattle.ci_machine_steps.specs.Prelude.{QueuedJob, Runner, Attempt, Need, Job, attempt_data, attempts_among, group_data, listed, needs_among, text_or_null, GroupOrder}
use Rattle.ci_machine_plans.specs.declared.object.Object.{Object}
use Rattle.ci_machine_plans.specs.declared.listed_jobs.ToldGroup.{ToldGroup}

abbrev pub members_of : Object → Members
members_of o = members_view o.members.entries

-- what a grant says of the job itself: {"name":..,"project_id":..,"stage":..}
abbrev pub job_info_data : QueuedJob → Data
job_info_data q =
    object (member (codes "name") (string q.job.name)
    (member (codes "project_id") (number (unsigned q.project))
    (member (codes "stage") (string q.job.stage) no_members)))

-- what is told of a job by these runners, pairs of a graph and attempts
abbrev pub around_members : List Runner → List Need → List Attempt → Job → Members
around_members runners needs attempts j =
    member (codes "attempts") (array (items_of (map (attempt_data runners) (attempts_among attempts j.id))))
    (member (codes "needs") (listed (λ n. number (unsigned n)) (needs_among needs j.id))
    (member (codes "resource_group") (text_or_null j.options.resource_group)
    (member (codes "tag_list") (listed string j.options.tags) no_members)))

-- a resource group with its process mode, and the job whose live attempt holds it
abbrev pub told_group : ToldGroup → Data
told_group g = group_data g.key g.order g.holder

-- what is told of a resource group has no float
pub group_is_plain : (key : List ℕ) (order : Option GroupOrder) (holder : Option ℕ) → has_float (group_data key order holder) ≡ false
group_is_plain key order None = refl
group_is_plain key order (Some n) = refl
