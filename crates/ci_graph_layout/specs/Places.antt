-- How the code keeps where the included jobs stand.
use Rattle.std.specs.Prelude.{◌≡◌, ℕ, Bool, true, false, List, [], ◌∷◌, if◌then◌else◌, map, nat_lt}
use Rattle.std.specs.HashMap as hash
use Rattle.std.specs.Str.{bytes_eq}
use Rattle.ci_config.specs.Prelude.{words_view}
use Rattle.ci_config.specs.Config.{Text, Config}
use Rattle.ci_graph_layout.specs.Inclusion.{Given, IncludedJob, decided}
use Rattle.ci_graph_layout.specs.Layout.{ranks, place_of, lineup}
use Rattle.ci_graph_layout.specs.View.{decided_view, lineup_view}
use Rattle.ci_graph_layout.specs.declared.places.Lineup.{Lineup}

abbrev pub stages_of : Lineup → List Text
stages_of l = words_view l.stages.now

abbrev pub jobs_of : Lineup → List IncludedJob
jobs_of l = lineup_view l.jobs

-- no number is below this one, and none below one before it
abbrev pub never_falls_from : ℕ → List ℕ → Bool
never_falls_from least [] = true
never_falls_from least (n ∷ ns) = if nat_lt n least then false else never_falls_from n ns

-- each name has the place of the first job that has it, and each job the place of its stage
pub record IsPlaced (l : Lineup) : Type 0 where
  pub places : (q : Text) → hash.get_by (λ k. bytes_eq q k.now) l.places ≡ place_of (jobs_of l) q
  pub ranks : l.ranks.items ≡ ranks (stages_of l) (jobs_of l)
  pub in_order : l.in_order ≡ never_falls_from 0 l.ranks.items

-- these are the jobs that the file includes, and all its jobs with what decides of them
pub record IsLineup (g : Given) (c : Config) (l : Lineup) : Type 0 where
  pub stages : stages_of l ≡ c.stages
  pub jobs : jobs_of l ≡ lineup g c
  pub decided : map decided_view l.decided.items ≡ decided g c
