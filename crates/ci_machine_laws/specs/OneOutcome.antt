-- An event has one outcome, but that a pattern of the CI file that it reads may be refused.
use Rattle.std.specs.Prelude.{◌≡◌, ◌⊎◌, ℕ, List, Option, Some, None, option_and_then}
use Rattle.ci_config.specs.Prelude.{Value}
use Rattle.ci_yaml.specs.Prelude.{HasTree}
use Rattle.ci_graph_layout.specs.Prelude.{LacksPatterns}
use Rattle.ci_machine_steps.specs.Prelude.{Event, SetFile, CreatePipeline, Answer, Detail, K, X, State, faulted, project_with}

-- the text that the event reads, if it does: that of the file to be, or of the project's, by which a pipeline is to be made
abbrev pub text_read : State → Event → Option (List ℕ)
text_read s (Event.Request (SetFile new)) = Some new.text
text_read s (Event.Request (CreatePipeline new)) = option_and_then (λ project. project.file) (project_with s new.token)
text_read s _ = None

-- a text of the file's tree is an expression with a pattern
pub record HoldsPattern (text : List ℕ) : Type 0 where
  pub tree : Value
  pub is_tree : HasTree text tree
  pub some : LacksPatterns tree → ⊥

-- the answer is K13 X8, and the file that the event reads holds a pattern
pub record RefusesPattern (s : State) (e : Event) (a : Answer) : Type 0 where
  pub text : List ℕ
  pub its_text : text_read s e ≡ Some text
  pub holds : HoldsPattern text
  pub answered : a ≡ Answer.Reply (faulted (Detail.Expression (K 13) (X 8))).0

-- both outcomes are one, or the answer of one of them is that a pattern is refused
abbrev pub OneOutcome : State → Event → Answer → State → Answer → State → Type 0
OneOutcome s e a t b u = ((b ≡ a) × (u ≡ t)) ⊎ (RefusesPattern s e a ⊎ RefusesPattern s e b)
