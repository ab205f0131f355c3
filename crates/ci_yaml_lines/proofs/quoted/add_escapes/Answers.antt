use Rattle.std.proofs.Common.{◌≡◌, ◌∙◌, ap, sym, rules, string_bytes, ◌∷◌, ◌||◌, List, ℕ, Option, cond}
use Rattle.ci_yaml_lines.specs.Scalar.{Quoted}
use Rattle.ci_yaml_lines.specs.Prelude.{double, with_words, with_wrong}
use Rattle.ci_yaml_lines.proofs.Quotes.{wrong-not, turn-wrong, turn-front, turn-closed}
use Rattle.ci_yaml_lines.proofs.quoted.add_escapes.Goals as goal

pub escapes-init : goal.escapes-init
escapes-init c = (
  search rules,
  ap (with_words (string_bytes c.args.words.now)) (wrong-not (double (92 ∷ c.args.rest.now))),
)

pub returns-in_default : goal.returns-in_default
returns-in_default c =
    let more : List ℕ = c.in_ok-misused.more.now in
    sym (ap (λ (q : Option Quoted). with_words (string_bytes c.unescape.new.words) (with_wrong (c.escapes.wrong || c.in_ok-misused.misused) q)) c.in_default.ensures.value)
    ∙ turn-wrong (string_bytes c.escapes.words) (string_bytes c.unescape.new.words) c.escapes.wrong c.in_ok-misused.misused (double more) (double (92 ∷ c.escapes.rest.now)) c.in_ok-misused.ensures.value
    ∙ c.escapes.invariant.1

pub returns-then-not-slash : goal.returns-then-not-slash
returns-then-not-slash c =
    let more : List ℕ = c.in_ok-misused.more.now in
    let front : List ℕ = c.in-Some.front.now in
    let behind : List ℕ = c.in-Some.behind.now in
    let goes : double more ≡ with_words front (double (34 ∷ behind)) = c.in-Some.ensures.value ∙ ap (λ t. with_words front (double (cond t 92 34 ∷ behind))) c.if-not-slash.true in
    sym (turn-closed (string_bytes c.push_str.new.self) behind (c.escapes.wrong || c.in_ok-misused.misused))
    ∙ turn-front (string_bytes c.unescape.new.words) (string_bytes c.push_str.new.self) front (c.escapes.wrong || c.in_ok-misused.misused) (double more) (double (34 ∷ behind)) c.in_ok-push_str.ensures.bytes goes
    ∙ turn-wrong (string_bytes c.escapes.words) (string_bytes c.unescape.new.words) c.escapes.wrong c.in_ok-misused.misused (double more) (double (92 ∷ c.escapes.rest.now)) c.in_ok-misused.ensures.value
    ∙ c.escapes.invariant.1

pub escapes-preserved : goal.escapes-preserved
escapes-preserved c =
    let more : List ℕ = c.in_ok-misused.more.now in
    let front : List ℕ = c.in-Some.front.now in
    let behind : List ℕ = c.in-Some.behind.now in
    let goes : double more ≡ with_words front (double (92 ∷ behind)) = c.in-Some.ensures.value ∙ ap (λ t. with_words front (double (cond t 92 34 ∷ behind))) c.if-not-slash.false in (
      search rules,
      turn-front (string_bytes c.unescape.new.words) (string_bytes c.push_str.new.self) front (c.escapes.wrong || c.in_ok-misused.misused) (double more) (double (92 ∷ behind)) c.in_ok-push_str.ensures.bytes goes
          ∙ turn-wrong (string_bytes c.escapes.words) (string_bytes c.unescape.new.words) c.escapes.wrong c.in_ok-misused.misused (double more) (double (92 ∷ c.escapes.rest.now)) c.in_ok-misused.ensures.value
          ∙ c.escapes.invariant.1,
    )
