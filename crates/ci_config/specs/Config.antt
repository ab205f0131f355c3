-- What a file configures.
use Rattle.std.specs.Prelude.{ℕ, Bool, List, Option}
use Rattle.ci_yaml_lines.specs.Prelude.{When, Retry, AllowFailure, Variables}
use Rattle.ci_expr.specs.Prelude.{Formula}
use Rattle.ci_config.specs.declared.keyword.RuleWhen.{RuleWhen}

abbrev pub Text : Type 0
Text = List ℕ

pub record Need : Type 0 where
  pub job : Text
  pub optional : Bool

pub record Rule : Type 0 where
  pub condition : Option Formula
  pub when : Option RuleWhen
  pub allow_failure : Option Bool
  pub variables : Variables

pub record Job : Type 0 where
  pub name : Text
  pub stage : Text
  pub script : List Text
  pub needs : Option (List Need)
  pub rules : Option (List Rule)
  pub when : Option When
  pub allow_failure : Option AllowFailure
  pub retry : Option Retry
  pub tags : List Text
  pub timeout : Option ℕ
  pub resource_group : Option Text
  pub interruptible : Bool
  pub variables : Variables

pub record Config : Type 0 where
  pub stages : List Text
  pub variables : Variables
  pub jobs : List Job
