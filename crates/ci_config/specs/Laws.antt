-- What holds of each tree, and of each configuration.
use Rattle.std.specs.Prelude.{◌≡◌, ◌≤◌, true, false, List, [], ◌∷◌, length, Ok, IfSome, ⊤}
use Rattle.ci_yaml_lines.specs.Prelude.{is_name, Variables, is_variable_name, Value, null, boolean, number, text, node, Members, no_members, member}
use Rattle.ci_expr.specs.Prelude.{Formula, has_pattern, expression_of}
use Rattle.ci_config.specs.Config.{Text, Rule, Job, Config}
use Rattle.ci_config.specs.Files.{is_among}
use Rattle.ci_config.specs.Meaning.{is_nil}
use Rattle.ci_config.specs.declared.limits.TheConstants.{MAX_JOBS}

-- ---- files without a pattern

-- the text is no expression with a pattern
abbrev pub HasNoPattern : Text → Type 0
HasNoPattern bs = (f : Formula) → expression_of bs ≡ Ok f → has_pattern f ≡ false

abbrev mutual
  -- no text of the tree is an expression with a pattern
  pub LacksPatterns : Value → Type 0
  LacksPatterns null = ⊤
  LacksPatterns (boolean b) = ⊤
  LacksPatterns (number n) = ⊤
  LacksPatterns (text bs) = HasNoPattern bs
  LacksPatterns (node kind ms) = AllLackPatterns ms

  pub AllLackPatterns : Members → Type 0
  AllLackPatterns no_members = ⊤
  AllLackPatterns (member name v ms) = LacksPatterns v × AllLackPatterns ms

-- ---- configurations

-- it holds of each of a list
abbrev pub Each : {A : Type 0} → (A → Type 0) → List A → Type 0
Each P [] = ⊤
Each P (x ∷ xs) = P x × Each P xs

-- no condition of a rule has a pattern
abbrev pub RuleLacksPattern : Rule → Type 0
RuleLacksPattern r = IfSome r.condition (λ f. has_pattern f ≡ false)

abbrev pub JobLacksPatterns : Job → Type 0
JobLacksPatterns j = IfSome j.rules (Each RuleLacksPattern)

abbrev pub ConfigLacksPatterns : Config → Type 0
ConfigLacksPatterns c = Each JobLacksPatterns c.jobs

abbrev pub IsName : Text → Type 0
IsName name = is_name name ≡ true

abbrev pub AreNamed : Variables → Type 0
AreNamed vs = Each (λ v. is_variable_name v.0 ≡ true) vs

-- the job has a script, and its stage is one of the stages
pub record CanRun (stages : List Text) (j : Job) : Type 0 where
  pub script : is_nil j.script ≡ false
  pub stage : is_among stages j.stage ≡ true

-- its names are names, and so are those of its variables
pub record HasNames (j : Job) : Type 0 where
  pub name : IsName j.name
  pub stage : IsName j.stage
  pub tags : Each IsName j.tags
  pub resource_group : IfSome j.resource_group IsName
  pub needs : IfSome j.needs (Each (λ n. IsName n.job))
  pub rules : IfSome j.rules (Each (λ r. AreNamed r.variables))
  pub variables : AreNamed j.variables

pub record IsWhole (c : Config) : Type 0 where
  pub some : is_nil c.jobs ≡ false
  pub few : length c.jobs ≤ MAX_JOBS
  pub can_run : Each (CanRun c.stages) c.jobs
  pub names : Each HasNames c.jobs
  pub stages : Each IsName c.stages
  pub variables : AreNamed c.variables
