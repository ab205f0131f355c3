-- For which resource groups a job must wait: those that live attempts hold, and those that other jobs go first in.
use Rattle.std.specs.Prelude.{ℕ, Bool, false, ◌&&◌, ◌==◌, nat_lt, List, ◌++◌, map, filter, find, Option, Some, None, option_map}
use Rattle.std.specs.List.{list_any}
use Rattle.std.specs.Str.{bytes_eq}
use Rattle.ci_machine.specs.declared.records.Holder.{Holder}
use Rattle.ci_machine.specs.declared.records.Claim.{Claim}
use Rattle.ci_machine.specs.declared.records.GroupMode.{GroupMode}
use Rattle.ci_machine.specs.declared.records.GroupOrder.{GroupOrder}
use Rattle.ci_machine.specs.declared.records.GroupOrder.TheVariants.{OldestFirst, NewestReadyFirst}
use Rattle.ci_machine.specs.declared.records.WaitingJob.{WaitingJob}

-- how the resource groups stand
pub record Groups : Type 0 where
  pub holders : List Holder  -- what live attempts hold
  pub modes : List GroupMode  -- of the groups that aren't unordered
  pub waiting : List WaitingJob  -- the jobs with a group that are created or pending

-- the mode is that of this resource group of the project
abbrev pub is_mode_of : ℕ → List ℕ → GroupMode → Bool
is_mode_of project group m = (m.project == project) && bytes_eq m.group group

-- the order of a resource group of the project: none where it is unordered
abbrev pub order_of : List GroupMode → ℕ → List ℕ → Option GroupOrder
order_of modes project group = option_map (λ m. m.order) (find (is_mode_of project group) modes)

-- By its order a waiting job goes before those that this pipeline has in the group: in the one order, where it is of an older pipeline; in
-- the other, where it is of a newer one and pending.
abbrev pub goes_before : GroupOrder → ℕ → WaitingJob → Bool
goes_before OldestFirst pipeline w = nat_lt w.pipeline pipeline
goes_before NewestReadyFirst pipeline w = nat_lt pipeline w.pipeline && w.pending

abbrev pub goes_before_in : Option GroupOrder → ℕ → WaitingJob → Bool
goes_before_in None pipeline w = false
goes_before_in (Some order) pipeline w = goes_before order pipeline w

-- by the mode of its group, which is one of its own project
abbrev pub is_first : List GroupMode → ℕ → WaitingJob → Bool
is_first modes pipeline w = goes_before_in (order_of modes w.project w.group) pipeline w

abbrev pub held_claim : Holder → Claim
held_claim h = record { project = h.project; group = h.group }

abbrev pub waiting_claim : WaitingJob → Claim
waiting_claim w = record { project = w.project; group = w.group }

-- the groups for which jobs of this pipeline must wait, for a waiting job
abbrev pub claims_ahead : Groups → ℕ → List Claim
claims_ahead g pipeline = map waiting_claim (filter (is_first g.modes pipeline) g.waiting)

-- the groups for which jobs of this pipeline must wait: for a live attempt, in every mode, or for a waiting job
abbrev pub claims_on : Groups → ℕ → List Claim
claims_on g pipeline = map held_claim g.holders ++ claims_ahead g pipeline

-- ---- of one group

abbrev pub is_in_line : ℕ → List ℕ → WaitingJob → Bool
is_in_line project group w = (w.project == project) && bytes_eq w.group group

-- a waiting job goes before those that this pipeline of the project has in the group
abbrev pub is_behind : Option GroupOrder → List WaitingJob → ℕ → ℕ → List ℕ → Bool
is_behind order waiting project pipeline group = list_any (λ w. is_in_line project group w && goes_before_in order pipeline w) waiting
