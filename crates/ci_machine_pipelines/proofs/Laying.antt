-- What is answered where a pipeline is to be made of a text fits it.
use Rattle.std.proofs.Common.{◌≡◌, ◌⊎◌, ℕ, ◌+◌, ◌-◌, ◌≤◌, Bool, true, false, ◌||◌, nat_lt, nat_le, List, [], length, map, sum_by, Option, Some, None, Result, Ok, Err, IfOk, IfSome}
use Rattle.std.proofs.Common.{nat_cmp, inl, inr, refl, sym, ap, subst, ◌∙◌, arith}
use Rattle.std.specs.List.Sorted.{IsStrictlySortedBy}
use Rattle.std.proofs.lemmas.Bool.{ltb-false, false≢true}
use Rattle.ci_machine_steps.specs.Prelude.{MAX_NUMBER, Job, Variable, NewPipeline, State, M15, Detail, Plan, refused, faulted, line_fault, keyword_fault, IsRead, configures}
use Rattle.ci_machine_steps.specs.Prelude.{misconfigures, lacks_tree, IsLaidOut, misread, unplanned, new_jobs, lacks_numbers, given_by, ShowsCreated, MakesUnless, Creates}
use Rattle.ci_config.specs.Prelude.{Value}
use Rattle.ci_yaml.specs.Prelude.{HasTree, RefusedBy}
use Rattle.ci_yaml.specs.declared.fault.YamlFault.{YamlFault}
use Rattle.ci_graph_layout.specs.Prelude.{Config, Patterns, K13, ConfigLacksPatterns, meaning, Means, config_view, RefusesLooks, Look, look_cost, X8, ExprFault, code_view}
use Rattle.ci_graph_layout.specs.Prelude.{ConfigFault, unmade}
use Rattle.ci_graph_layout.specs.declared.limits.TheConstants.{MAX_SEARCH_COST}
use Rattle.ci_config.specs.FaultView as keywords
use Rattle.ci_graph_layout.specs.Plans.{Gives}
use Rattle.ci_graph_layout.specs.declared.fault.PlanFault.{PlanFault}
use Rattle.ci_machine_steps.specs.Pipelines as pipelines
use Rattle.ci_machine_steps.proofs.Created.{new_rise, new_length}
use Rattle.ci_machine_steps.proofs.Sound.{ascend_from_rising}
use Rattle.ci_machine_pipelines.specs.declared.creation.Creation.{Creation}
use Rattle.ci_machine_pipelines.specs.declared.files.FileFault.{FileFault}
use Rattle.ci_machine_pipelines.specs.declared.files.FileFault.TheVariants.{Memory, Fault}
use Rattle.ci_machine_pipelines.specs.Readings.{yaml_fault, Shows}
use Rattle.ci_machine_pipelines.specs.Creations.{Origin, origin, creation_view, creation_of, plan_fault, LaysOut}

-- ---- faults

-- of the lines
pub lacks : (text : List ℕ) (o : Origin) (fault : YamlFault) (f : FileFault) → f ≡ yaml_fault fault → RefusedBy text fault → LaysOut text o (Err f)
lacks text o YamlFault.Memory f is by = subst (λ (g : FileFault). LaysOut text o (Err g)) (sym is) tt
lacks text o (YamlFault.Fault code line) f is by = subst (λ (g : FileFault). LaysOut text o (Err g)) (sym is) (misread (line_fault code line) (lacks_tree line code by))

-- of the keywords
pub misconfigured : (text : List ℕ) (o : Origin) (tree : Value) (fault : ConfigFault) (f : FileFault) → HasTree text tree → ((builds : Patterns) × keywords.Gives config_view (Err fault) (meaning builds tree)) → Shows f fault → LaysOut text o (Err f)
misconfigured text o tree fault Memory has answer shows = tt
misconfigured text o tree ConfigFault.Memory (Fault detail) has answer shows = absurd shows
misconfigured text o tree (ConfigFault.Fault code) (Fault detail) has answer shows =
    subst (λ (d : Detail). IsLaidOut text o.given (Err d)) (sym shows) (misread (keyword_fault (code_view code)) (misconfigures tree (code_view code) has answer))

-- where there is a pattern, X8 may be answered
abbrev MayRefuse : Type 0
MayRefuse = (v : Value) (k : Config) → Means v (Ok k) → ConfigLacksPatterns k ⊎ Means v (Err (K13 X8))

refused-by : (tree : Value) (c : Config) → ConfigLacksPatterns c ⊎ Means tree (Err (K13 X8)) → (ConfigLacksPatterns c → ⊥) → Means tree (Err (K13 X8))
refused-by tree c (inr m) some = m
refused-by tree c (inl h) some = absurd (some h)

-- of a pattern that isn't built again
pub not_built : (text : List ℕ) (o : Origin) (c : Config) → IsRead text (Ok c) → MayRefuse → (ConfigLacksPatterns c → ⊥) → IsLaidOut text o.given (Err (keyword_fault (K13 X8)))
not_built text o c (configures tree k has answer) refuse some = misread (keyword_fault (K13 X8)) (misconfigures tree (K13 X8) has (refused-by tree c (refuse tree c answer) some))

-- of rules that cost too much to decide
pub unaffordable : (text : List ℕ) (o : Origin) (c : Config) (looks : List Look) (f : FileFault) → f ≡ plan_fault PlanFault.Pattern → IsRead text (Ok c) → MayRefuse
    → (ConfigLacksPatterns c → looks ≡ []) → nat_le (sum_by look_cost looks) MAX_SEARCH_COST ≡ false → LaysOut text o (Err f)
unaffordable text o c looks f is read refuse none over =
    subst (λ (g : FileFault). LaysOut text o (Err g)) (sym is) (not_built text o c read refuse (λ h.
    let no : nat_le 0 MAX_SEARCH_COST ≡ false = subst (λ ls. nat_le (sum_by look_cost ls) MAX_SEARCH_COST ≡ false) (none h) over in
    absurd cc))

-- of looks that aren't made
pub not_looked_for : (text : List ℕ) (o : Origin) (c : Config) (e : ExprFault) (looks : List Look) (f : FileFault) → f ≡ plan_fault (unmade e) → IsRead text (Ok c) → MayRefuse
    → (ConfigLacksPatterns c → looks ≡ []) → RefusesLooks e looks → LaysOut text o (Err f)
not_looked_for text o c ExprFault.Memory ls f is read refuse none by = subst (λ (g : FileFault). LaysOut text o (Err g)) (sym is) tt
not_looked_for text o c (ExprFault.Fault x) ls f is read refuse none by =
    subst (λ (g : FileFault). LaysOut text o (Err g)) (sym is) (not_built text o c read refuse (λ h. by.1 (none h)))

-- of the graph
pub not_planned : (text : List ℕ) (o : Origin) (c : Config) (fault : PlanFault) (f : FileFault) → f ≡ plan_fault fault → IsRead text (Ok c) → MayRefuse → Gives o.given c (Err fault) → LaysOut text o (Err f)
not_planned text o c PlanFault.Pattern f is read refuse gives = subst (λ (g : FileFault). LaysOut text o (Err g)) (sym is) (not_built text o c read refuse gives)
not_planned text o c PlanFault.Memory f is read refuse gives = subst (λ (g : FileFault). LaysOut text o (Err g)) (sym is) tt
not_planned text o c (PlanFault.Fault code) f is read refuse gives = subst (λ (g : FileFault). LaysOut text o (Err g)) (sym is) (unplanned c code read gives)

-- ---- numbers

either_not : (a b : Bool) → a || b ≡ false → (a ≡ false) × (b ≡ false)
either_not true b e = absurd (false≢true (sym e))
either_not false b e = (refl, e)

pub numbers_fit : (id first count : ℕ) → lacks_numbers id first count ≡ false → (id ≤ MAX_NUMBER) × (first + count ≤ MAX_NUMBER + 1)
numbers_fit id first count e =
    let w = either_not (nat_lt MAX_NUMBER id) (nat_lt MAX_NUMBER (first + count - 1)) e in
    let last : first + count - 1 ≤ MAX_NUMBER = ltb-false MAX_NUMBER (first + count - 1) w.1 in
    (ltb-false MAX_NUMBER id w.0, omega arith)

-- ---- what is known of the records

module _ (text : List ℕ) (o : Origin) where
  pub pipeline_within : (r : Result (Option Creation) FileFault) → LaysOut text o r → IfOk r (λ made. IfSome made (λ c. c.pipeline.id ≤ MAX_NUMBER))
  pipeline_within (Err f) l = tt
  pipeline_within (Ok None) l = tt
  pipeline_within (Ok (Some c)) l =
      let (laid, is, made) = l in
      let same : c.pipeline.id ≡ o.id = ap (λ (m : pipelines.Creation). m.pipeline.id) made.0 in
      let fits : o.id ≤ MAX_NUMBER = (numbers_fit o.id o.first_job (length laid.plan.jobs) made.1).0 in
      omega arith

  pub jobs_within : (r : Result (Option Creation) FileFault) → LaysOut text o r → IfOk r (λ made. IfSome made (λ c. o.first_job + length c.jobs.items ≤ MAX_NUMBER + 1))
  jobs_within (Err f) l = tt
  jobs_within (Ok None) l = tt
  jobs_within (Ok (Some c)) l =
      let (laid, is, made) = l in
      let same : length c.jobs.items ≡ length laid.plan.jobs = ap (λ (m : pipelines.Creation). length m.jobs) made.0 ∙ new_length o.id o.first_job 0 laid.plan.jobs in
      let fits : o.first_job + length laid.plan.jobs ≤ MAX_NUMBER + 1 = (numbers_fit o.id o.first_job (length laid.plan.jobs) made.1).1 in
      omega arith

  pub jobs_ascend : (r : Result (Option Creation) FileFault) → LaysOut text o r → IfOk r (λ made. IfSome made (λ c. IsStrictlySortedBy nat_cmp (map (λ j. j.id) c.jobs.items)))
  jobs_ascend (Err f) l = tt
  jobs_ascend (Ok None) l = tt
  jobs_ascend (Ok (Some c)) l =
      let (laid, is, made) = l in
      subst (λ (js : List Job). IsStrictlySortedBy nat_cmp (map (λ j. j.id) js)) (sym (ap (λ (m : pipelines.Creation). m.jobs) made.0))
      (ascend_from_rising (λ (j : Job). j.id) (o.first_job + 0) (new_jobs o.id o.first_job 0 laid.plan.jobs) (new_rise o.id o.first_job 0 laid.plan.jobs))

-- ---- the plans of the definition

module _ (s : State) (text : List ℕ) (new : NewPipeline) (vs : List Variable) (now : ℕ) where
  abbrev start : Origin
  start = origin s.next.pipeline s.next.job new vs now

  abbrev CreatesBy : Plan → Type 0
  CreatesBy p = Creates s new (given_by new vs) now (Ok text) p

  pub creates : (c : Creation) (p : Plan) → LaysOut text start (Ok (Some c)) → ShowsCreated s s.next.job (creation_view c) p → CreatesBy p
  creates c p l shows =
      let (laid, lays, made) = l in (
        Ok laid,
        lays,
        subst (λ (b : Bool). MakesUnless b s s.next.job (creation_of start laid) p) (sym made.1)
            (subst (λ (m : pipelines.Creation). MakesUnless false s s.next.job m p) made.0 shows),
      )

  pub creates_none : (p : Plan) → LaysOut text start (Ok None) → p ≡ refused M15 → CreatesBy p
  creates_none p l is =
      let (laid, lays, lack) = l in
      (Ok laid, lays, subst (λ (b : Bool). MakesUnless b s s.next.job (creation_of start laid) p) (sym lack) is)

  pub creates_fault : (detail : Detail) (p : Plan) → LaysOut text start (Err (Fault detail)) → p ≡ faulted detail → CreatesBy p
  creates_fault detail p l is = (Err detail, l, is)
