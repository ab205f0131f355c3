-- The tables of keywords, as the code has them.
use Rattle.std.specs.Prelude.{ℕ, List, map}
use Rattle.ci_config.specs.declared.keyword.WhenWord.{WhenWord}
use Rattle.ci_config.specs.declared.keyword.CauseWord.{CauseWord}
use Rattle.ci_config.specs.declared.keyword.FileKeyword.{FileKeyword}
use Rattle.ci_config.specs.declared.keyword.JobKeyword.{JobKeyword}
use Rattle.ci_config.specs.declared.keyword.RuleKeyword.{RuleKeyword}
use Rattle.ci_config.specs.declared.keyword.NeedKeyword.{NeedKeyword}
use Rattle.ci_config.specs.declared.keyword.RetryKeyword.{RetryKeyword}
use Rattle.ci_config.specs.declared.keyword.AllowFailureKeyword.{AllowFailureKeyword}
use Rattle.ci_config.specs.declared.keyword.TheConstants.{WHENS, CAUSES, FILE_KEYWORDS, FILE_LEFT_OUT, JOB_KEYWORDS, JOB_LEFT_OUT, RULE_KEYWORDS, RULE_LEFT_OUT, NEED_KEYWORDS, NEED_LEFT_OUT, RETRY_KEYWORDS, RETRY_LEFT_OUT, ALLOW_FAILURE_KEYWORDS, ALLOW_FAILURE_LEFT_OUT}

abbrev pub whens : List (List ℕ × WhenWord)
whens = map (λ e. (e.0.now, e.1)) WHENS

abbrev pub causes : List (List ℕ × CauseWord)
causes = map (λ e. (e.0.now, e.1)) CAUSES

abbrev pub file_keywords : List (List ℕ × FileKeyword)
file_keywords = map (λ e. (e.0.now, e.1)) FILE_KEYWORDS

abbrev pub file_left_out : List (List ℕ)
file_left_out = map (λ n. n.now) FILE_LEFT_OUT

abbrev pub job_keywords : List (List ℕ × JobKeyword)
job_keywords = map (λ e. (e.0.now, e.1)) JOB_KEYWORDS

abbrev pub job_left_out : List (List ℕ)
job_left_out = map (λ n. n.now) JOB_LEFT_OUT

abbrev pub rule_keywords : List (List ℕ × RuleKeyword)
rule_keywords = map (λ e. (e.0.now, e.1)) RULE_KEYWORDS

abbrev pub rule_left_out : List (List ℕ)
rule_left_out = map (λ n. n.now) RULE_LEFT_OUT

abbrev pub need_keywords : List (List ℕ × NeedKeyword)
need_keywords = map (λ e. (e.0.now, e.1)) NEED_KEYWORDS

abbrev pub need_left_out : List (List ℕ)
need_left_out = map (λ n. n.now) NEED_LEFT_OUT

abbrev pub retry_keywords : List (List ℕ × RetryKeyword)
retry_keywords = map (λ e. (e.0.now, e.1)) RETRY_KEYWORDS

abbrev pub retry_left_out : List (List ℕ)
retry_left_out = map (λ n. n.now) RETRY_LEFT_OUT

abbrev pub allow_failure_keywords : List (List ℕ × AllowFailureKeyword)
allow_failure_keywords = map (λ e. (e.0.now, e.1)) ALLOW_FAILURE_KEYWORDS

abbrev pub allow_failure_left_out : List (List ℕ)
allow_failure_left_out = map (λ n. n.now) ALLOW_FAILURE_LEFT_OUT
