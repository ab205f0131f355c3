-- What is looked up of the resource groups that are held.
use Rattle.std.specs.Prelude.{◌≡◌, ℕ, Bool, true, false, not, List, [], ◌∷◌, filter, if◌then◌else◌, All, Option, Some, None, option_to_list}
use Rattle.std.specs.List.{list_any}
use Rattle.ci_machine_steps.specs.Prelude.{Claim, Holder, Job, holds, is_free, Groups, order_of, is_behind, IndexChange, Free, holder_at}

-- none of these holds this resource group, if it is one, of the project
abbrev pub is_unheld : List Holder → ℕ → Option (List ℕ) → Bool
is_unheld holders project None = true
is_unheld holders project (Some group) = not (list_any (holds project group) holders)

-- of the same of these jobs of a project the group is held, by these holders and by those
abbrev pub HoldAlike : List Holder → List Holder → ℕ → List Job → Type 0
HoldAlike found holders project jobs = All (λ j. is_unheld found project j.options.resource_group ≡ is_unheld holders project j.options.resource_group) jobs

-- the same of these jobs of a project need not wait for their group, by these claims and by those
abbrev pub FreeAlike : List Claim → List Claim → ℕ → List Job → Type 0
FreeAlike found claims project jobs = All (λ j. is_free found project j.options.resource_group ≡ is_free claims project j.options.resource_group) jobs

-- a claim on the resource group, where there is one
abbrev pub claim_if : Bool → ℕ → List ℕ → List Claim
claim_if claimed project group = if claimed then record { project = project; group = group } ∷ [] else []

-- a claim on this resource group, if it is one, where others go before the jobs that the pipeline has in it
abbrev pub ahead_for : Groups → ℕ → ℕ → Option (List ℕ) → List Claim
ahead_for g project pipeline None = []
ahead_for g project pipeline (Some group) = claim_if (is_behind (order_of g.modes project group) g.waiting project pipeline group) project group

-- the holder of this resource group, if it is one and is held
abbrev pub holder_for : ℕ → List Holder → Option (List ℕ) → List Holder
holder_for project holders None = []
holder_for project holders (Some group) = option_to_list (holder_at project group holders)

-- the change frees what the holder holds
abbrev pub frees : Holder → IndexChange → Bool
frees h (Free project group) = holds project group h
frees h _ = false

-- those that hold what they held after changes that hold no group
abbrev pub still_held : List IndexChange → List Holder → List Holder
still_held changes held = filter (λ h. not (list_any (frees h) changes)) held
